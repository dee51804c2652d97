-- Laws of whole lines: that the parts make the lines of the model, and how long the codes are. Assumes nothing.
use mathlib.Core.Path.{◌≡◌}
use mathlib.Core.Bool.{true, false}
use mathlib.Core.List.{List, [], ◌∷◌, ◌++◌, append_assoc}
use Prim.Native.Nat.{ℕ, ◌*◌, ◌≤◌}
use native.Mathlib.Omega.{arith}
use lib.ListN.{length, length-append}
use Rattle.model.specs.Bounds.{is_size}
use Rattle.model.specs.Text.{bytes, comma, line_end}
use Rattle.rules.specs.Grid.{Size}
use Rattle.rules.specs.Record.{record_lines}
use Rattle.model.specs.Decimal.{decimal}
use Rattle.model.specs.Printed.{code_digits, summary_line, layout_line, refusal_line}
use Rattle.model.specs.RoutesTo.{progress_line}
use Rattle.model.specs.RefusalLaws.{size_of_test}
use Rattle.printed.specs.Written.{layout_text}
use Rattle.printed.specs.Filled.{digits_20, digits_3}
use Rattle.printed.proofs.CodeLaws.{codes_length, all_pads}

pub codes_256 : (height width : ℕ) (layout : List ℕ) → Size height → Size width → length (code_digits height width layout) ≤ 256
unfolding code_digits
codes_256 height width layout h w = rw (codes_length height width layout (height * width) 0) (all_pads height width h w)

-- ## The lines

pub summary_parts : (layouts visited fewest outcome : ℕ) → (decimal layouts ++ (44 ∷ [])) ++ (decimal visited ++ (44 ∷ [])) ++ (decimal fewest ++ (44 ∷ [])) ++ (decimal outcome ++ (10 ∷ [])) ≡ summary_line layouts visited fewest outcome
unfolding summary_line comma line_end bytes
summary_parts layouts visited fewest outcome = simp append_assoc

pub refusal_parts : (number line field : ℕ) → bytes "refused," ++ (decimal number ++ (44 ∷ [])) ++ (decimal line ++ (44 ∷ [])) ++ (decimal field ++ (10 ∷ [])) ≡ refusal_line number line field
unfolding refusal_line comma line_end bytes
refusal_parts number line field = simp append_assoc

pub progress_parts : (visited layouts : ℕ) → (bytes "visited " ++ decimal visited) ++ bytes " boards, layouts " ++ (decimal layouts ++ (10 ∷ [])) ≡ progress_line visited layouts
unfolding progress_line line_end bytes
progress_parts visited layouts = simp append_assoc

module _ (height width number : ℕ) (layout : List ℕ) where
  pub layout_parts : is_size height ≡ true → is_size width ≡ true → (long : ℕ) → long ≡ record_lines layout → (decimal number ++ (44 ∷ [])) ++ (decimal long ++ (44 ∷ [])) ++ code_digits height width layout ++ (10 ∷ []) ≡ layout_text height width number layout
  unfolding layout_text layout_line comma line_end bytes
  layout_parts h w long e = rw (h, w, e) (simp append_assoc)

  pub no_height : is_size height ≡ false → layout_text height width number layout ≡ []
  unfolding layout_text
  no_height h = simp h

  pub no_width : is_size height ≡ true → is_size width ≡ false → layout_text height width number layout ≡ []
  unfolding layout_text
  no_width h w = simp (h, w)

-- ## An empty line

pub none_yet : {line : List ℕ} → line ≡ [] → length line ≤ 0
none_yet e = rw e (omega arith)

-- what the proofs of the lines are found by
pub ruleset line_laws = (none_yet, length-append, digits_20, digits_3, summary_parts, refusal_parts, progress_parts, layout_parts, codes_256, all_pads, no_height, no_width, size_of_test)
