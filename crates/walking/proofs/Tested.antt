-- What the test of a full drawing comes to: no layout where the judge does not mark it 2, and else the layout of its record; and a record that is
-- put into the buffer as a word. They rest on Given.antt, on the judge's contract and on runs' Layouts.antt.
use Prim.Native.Nat.{ℕ, ◌+◌, ◌*◌, ◌≤◌}
use mathlib.Core.Path.{◌≡◌, refl, sym, ap, ◌∙◌, subst}
use mathlib.Core.Logic.{◌⊎◌, inl, inr}
use mathlib.Core.List.{List, [], ◌∷◌, append_assoc}
use borrow.Author.Tests.{eq-eqb, ne_eqb}
use lib.ListN.{length, take, drop}
use lib.Seq.{sets, sets-eq}
use Rattle.rules.specs.Grid.{Grid, places}
use Rattle.rules.specs.Places.{some_places}
use Rattle.rules.specs.Record.{record_lines}
use Rattle.model.specs.Judge as model
use Rattle.model.specs.PutBytes.{put_bytes}
use Rattle.model.specs.Runs.{Event, layout, least}
use Rattle.tally.specs.declared.Tally.{Tally}
use Rattle.runs.specs.Progress.{advance}
use Rattle.runs.specs.Layouts.{Added}
use Rattle.judging.specs.declared.Judged.{Judged}
use Rattle.std.specs.Prelude.{Ok}
use native.Mathlib.Omega.{arith}
use Rattle.judging.specs.declared.Verdict.{Verdict}
use Rattle.judging.specs.declared.Verdict.TheVariants.{NoLayout, Ordinary, Listed}
use Rattle.judging.specs.Judging.{verdict_number, judged_says, answer}
use Rattle.grid.specs.declared.accepted.Grid.{Grid as AcceptedGrid}
use Rattle.grid.specs.AsGrid.{as_grid}
use Rattle.walking.specs.Given.{tested_record}
use Rattle.walking.specs.Walked.{Begun}

-- a word is put at its place
pub word_put : (before after : List ℕ) (at : ℕ) (word : List ℕ) → at + length word ≤ length before → after ≡ sets before at word → after ≡ put_bytes at word before
unfolding put_bytes
word_put before after at word fits is = is ∙ sets-eq word before at fits ∙ append_assoc (take at before) word (drop (at + length word) before)

-- a tally with one layout more
pub added_to : (size : ℕ) (events : List Event) (lines : ℕ) (buffer buffer' : List ℕ) (t t' : Tally) → t' ≡ record { visited = t.visited; layouts = t.layouts + 1; fewest = least t.fewest lines }
    → Added size events t.layouts t.fewest buffer 0 (t.layouts + 1) (least t.fewest lines) buffer' → Added size events t.layouts t.fewest buffer 0 t'.layouts t'.fewest buffer' × (t'.visited ≡ t.visited)
added_to size events lines buffer buffer' t t' is added = rw is (added, refl)

-- a verdict of the other two
pub unlisted : (v : Verdict) → (v ≡ NoLayout) ⊎ (v ≡ Ordinary) → v ≡ Listed → ⊥
unlisted v (inl e) h = cc
unlisted v (inr e) h = cc

-- what is told by 2
is_listed : (v : Verdict) → verdict_number v ≡ 2 → v ≡ Listed
is_listed NoLayout h = absurd (omega arith)
is_listed Ordinary h = absurd (omega arith)
is_listed Listed h = refl

module _ (grid : AcceptedGrid) (bytes : List ℕ) (layouts : ℕ) (buffer : List ℕ) (begun : Begun grid.height grid.width bytes layouts buffer)
    (r : Judged) (says : judged_says (Ok r) ≡ answer (model.verdict (as_grid grid) bytes) (record_lines bytes)) where
  abbrev g : Grid
  g = as_grid grid

  its_verdict : verdict_number r.verdict ≡ model.verdict g bytes
  its_verdict = ap (λ (j : model.Judged). j.verdict) says

  -- not listed
  pub no_layout : (fewest_lines : ℕ) → (r.verdict ≡ Listed → ⊥) → Added (places grid.height grid.width) (tested_record g bytes) layouts fewest_lines buffer 0 layouts fewest_lines buffer
  unfolding tested_record advance
  no_layout fewest_lines other = record {
    advanced = λ limit visited. (rw (ne_eqb (model.verdict g bytes) 2 (λ e. other (is_listed r.verdict (its_verdict ∙ e))), tested_record) refl);
    inside = begun.inside;
    same_length = refl;
  }

  -- listed: its lines, and its layout
  module _ (listed : r.verdict ≡ Listed) where
    marked : model.verdict g bytes ≡ 2
    marked = sym its_verdict ∙ ap verdict_number listed

    pub some_bytes : 1 ≤ length bytes
    some_bytes = rw begun.long (some_places grid.height grid.width grid.accepted.height_in_range.0 grid.accepted.width_in_range.0)

    pub its_lines : r.lines ≡ record_lines bytes
    its_lines = ap (λ (j : model.Judged). j.lines) says ∙ rw marked refl

    pub room_so_far : layouts * length bytes ≤ length buffer
    room_so_far = rw begun.long begun.inside

    pub its_layout : (fewest_lines o layouts' fewest_lines' : ℕ) (buffer' : List ℕ) → Added (length bytes) (layout bytes ∷ []) layouts fewest_lines buffer o layouts' fewest_lines' buffer'
        → Added (places grid.height grid.width) (tested_record g bytes) layouts fewest_lines buffer o layouts' fewest_lines' buffer'
    unfolding tested_record
    its_layout fewest_lines o layouts' fewest_lines' buffer' added = rw (eq-eqb (model.verdict g bytes) 2 marked, tested_record)
        (subst (λ (n : ℕ). Added n (layout bytes ∷ []) layouts fewest_lines buffer o layouts' fewest_lines' buffer') begun.long added)
