-- Undoing an entry of the log leaves as many ends as there were. It rests on boardview's View.antt and Ends.antt.
use Rattle.std.specs.Prelude.{ℕ, ◌+◌, ◌*◌, ◌-◌, ◌/◌, ◌≡◌, refl, Bool, true, false, List, get_or, set, length, ℤ, pos}
use Rattle.std.proofs.Common.{◌∙◌, length-set}
use Rattle.model.specs.JoinedEnds.{is_through}
use Rattle.boardview.specs.Told.{pick}
use Rattle.boardview.specs.View.{end_of, put_number, unjoined, second_pad, slot_logged, undone_one}
use Rattle.boardview.specs.Ends.{length_put}

pub length_undone : (w : ℕ) (log : List ℤ) (k : ℕ) (E : List ℕ × List ℤ) → length (undone_one w log k E).1 ≡ length E.1
unfolding undone_one unjoined
length_undone w log k E = go (is_through (end_of A))
  where
    A : ℤ
    A = get_or log (3 * k + 1) (pos 0)

    B : ℤ
    B = get_or log (3 * k + 2) (pos 0)

    v : ℕ
    v = slot_logged log k / 2 - 16

    q : ℕ
    q = second_pad w (slot_logged log k)

    go : (b : Bool) → length (pick b E.1 (put_number (end_of B) (pos q) (put_number (end_of A) (pos v) (set (set E.1 v A) q B)))) ≡ length E.1
    go true = refl
    go false = length_put (end_of B) (pos q) (put_number (end_of A) (pos v) (set (set E.1 v A) q B)) ∙ (length_put (end_of A) (pos v) (set (set E.1 v A) q B)
        ∙ (length-set (set E.1 v A) q B ∙ length-set E.1 v A))
