-- Laws of the text: that of a refused file and that of an accepted one, and that the two numbers of a verdict make its line. They rest on the
-- laws of the reader.
use Prim.Native.Nat.{ℕ, ◌*◌, ◌≤◌}
use mathlib.Core.Path.{◌≡◌, refl, sym, ap, ◌∙◌}
use mathlib.Core.List.{List, [], ◌∷◌, ◌++◌, append_assoc}
use lib.ListN.{take, length}
use Rattle.rules.specs.Record.{record_lines}
use Rattle.model.specs.RefusalLaws.{accepted_is_not_refused}
use Rattle.model.specs.Text.{bytes, comma, line_end}
use Rattle.model.specs.Decimal.{decimal}
use Rattle.model.specs.GridFile.{read, declined_reading}
use Rattle.model.specs.Printed.{refusal_line, reading_text}
use Rattle.model.specs.Judge.{Judged, judge, verdict}
use Rattle.judging.specs.Judging.{answer}
use Rattle.judging.proofs.Answers.{judged}
use Rattle.model.specs.JudgeText.{record_of_codes, judged_line, judged_text}
use Rattle.std.specs.Prelude.{Ok, Err}
use lib.IntN.{ℤ}
use Rattle.gridfile.specs.declared.Fault.{Fault}
use Rattle.gridfile.specs.declared.Fault.TheVariants.{StrayByte, EleventhDigit, LargeCode, FieldCount, BadSize, FileEnd, ByteAfterDigit, LeadingZero, HalfByte}
use Rattle.gridfile.specs.declared.Declined.{Declined}
use Rattle.grid.specs.declared.accepted.Grid.{Grid as AcceptedGrid}
use Rattle.grid.specs.AsGrid.{as_grid}
use Rattle.gridfile.specs.declared.sized.Grid.{Grid}
use Rattle.gridfile.specs.Fields.{fault_number}
use Rattle.gridfile.specs.Answers.{reading_says}

-- ## The line of a verdict

pub judged_parts : (said : Judged) → ([] ++ (decimal said.verdict ++ (44 ∷ []))) ++ (decimal said.lines ++ (10 ∷ [])) ≡ judged_line said
unfolding judged_line comma line_end bytes
judged_parts said = simp append_assoc

-- the line is no longer than its first field
pub first_field : (before text field : List ℕ) → text ≡ before ++ field → before ≡ [] → length field ≤ 21 → length text ≤ 21
first_field before text field is none few = rw (is, none) few

-- ## What was read

-- the text of a refused file
refusal_text : (fault : Fault) (line field : ℕ) (text : ℕ → ℕ → List ℤ → List ℕ) → refusal_line (fault_number fault) line field ≡ reading_text text (declined_reading (fault_number fault) line field)
unfolding reading_text
refusal_text StrayByte line field text = refl
refusal_text EleventhDigit line field text = refl
refusal_text LargeCode line field text = refl
refusal_text FieldCount line field text = refl
refusal_text BadSize line field text = refl
refusal_text FileEnd line field text = refl
refusal_text ByteAfterDigit line field text = refl
refusal_text LeadingZero line field text = refl
refusal_text HalfByte line field text = refl

pub refused_text : (file digits : List ℕ) (declined : Declined) → reading_says (Err declined) ≡ read file → {text : List ℕ}
    → text ≡ refusal_line (fault_number declined.fault) declined.line declined.field → text ≡ judged_text digits (read file)
unfolding judged_text
refused_text file digits declined same is = is ∙ refusal_text declined.fault declined.line declined.field _ ∙ ap (judged_text digits) same

-- the text of a grid that was read: the record that is judged is that of the codes
module _ (file : List ℕ) (grid : Grid) (same : reading_says (Ok grid) ≡ read file) where
  abbrev cells : List ℤ
  cells = take (grid.height * grid.width) grid.cells

  pub accepted_text : (view : AcceptedGrid) → view.height ≡ grid.height → view.width ≡ grid.width → view.cells.now ≡ cells
      → (digits : List ℕ) {laid : List ℕ} → laid ≡ record_of_codes view.height view.width digits
      → {said : Judged} → said ≡ answer (verdict (as_grid view) laid) (record_lines laid)
      → {text : List ℕ} → text ≡ judged_line said → text ≡ judged_text digits (read file)
  unfolding judged_text reading_text
  accepted_text view high wide same_cells digits coded says is =
      let whole = judged grid.height grid.width cells _ (sym (accepted_is_not_refused grid.height grid.width cells grid.accepted)) view (high, wide, same_cells) says in
      let its_record = coded ∙ (λ i. record_of_codes (high i) (wide i) digits) in
      is ∙ ap judged_line whole ∙ ap (λ (laid : List ℕ). judged_line (judge grid.height grid.width cells laid)) its_record ∙ ap (judged_text digits) same
