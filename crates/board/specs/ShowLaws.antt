-- What a board shows: a list laid out element by element, the record of the edges, the ends. It rests on Held.antt and boardview's
-- ShownRecord.antt.
use Rattle.std.specs.Prelude.{ℕ, zero, suc, ◌+◌, ◌*◌, ◌≤◌, ◌<◌, ◌≡◌, refl, List, [], ◌∷◌, ◌++◌, get_or, length, take, drop, set, ℤ, pos}
use Rattle.std.proofs.Math.Path.{sym, ap}
use Rattle.std.proofs.Math.Seq.{take-suc}
use Rattle.std.proofs.Common.{◌∙◌, arith, zero-add, add-one, length-set, take-suc-set, take-take, take_at}
use Rattle.rules.specs.Grid.{places, Grid, pads}
use Rattle.rules.specs.Record.{field, tabulate}
use Rattle.rules.specs.RecordLaws.{tabulate_parts, tabulate_same, length_field}
use Rattle.model.specs.JoinedEnds.{end_number}
use Rattle.model.specs.Calls as model
use Rattle.boardview.specs.View.{view, grid_in, flag_in}
use Rattle.boardview.specs.Ends.{number_of_end}
use Rattle.model.specs.Lists.{default_free}
use Rattle.model.specs.PutBytes.{put_bytes}
use Rattle.boardview.specs.ShownRecord.{record_shown, bytes_shown, edges_only}
use Rattle.board.specs.Held.{Held, Shows}
use Rattle.board.specs.declared.parts.Board.{Board}
use Rattle.board.specs.declared.shown.Shown.{Shown}

-- one more of a list that is laid out
one_more : {A : Type 0} (f : ℕ → A) (start n : ℕ) → tabulate f start (suc n) ≡ tabulate f start n ++ (f (start + n) ∷ [])
unfolding tabulate
one_more f start n = ap (tabulate f start) (sym (add-one n)) ∙ tabulate_parts f start n 1

-- LAID OUT: the first i elements are f at 0, 1, and so on
pub record Laid {A : Type 0} (f : ℕ → A) (size : ℕ) (list : List A) (i : ℕ) : Type 0 where
  pub first : take i list ≡ tabulate f 0 i
  pub long : length list ≡ size

pub none_laid : {A : Type 0} (f : ℕ → A) (size : ℕ) {list : List A} → length list ≡ size → Laid f size list 0
unfolding tabulate
none_laid f size long = record { first = refl; long = long }

pub one_laid : {A : Type 0} (f : ℕ → A) (size : ℕ) {list : List A} {i : ℕ} {value : A} → value ≡ f i → i < size → Laid f size list i → Laid f size (set list i value) (i + 1)
one_laid f size {list} {i} {value} is below laid = record {
  first = ap (λ (n : ℕ). take n (set list i value)) (add-one i) ∙ take-suc-set list i value (omega (arith, laid.long))
      ∙ ap (λ l. l ++ (value ∷ [])) laid.first ∙ ap (λ v. tabulate f 0 i ++ (v ∷ [])) (is ∙ ap f (sym (zero-add i))) ∙ sym (one_more f 0 i)
      ∙ ap (λ (n : ℕ). tabulate f 0 n) (sym (add-one i));
  long = length-set list i value ∙ laid.long;
}

-- the first elements of a list are that list's
pub laid_copied : {A : Type 0} (list : List A) (d : A) (n : ℕ) → n ≤ length list → {copy : List A} → copy ≡ take n list → length copy ≡ n → Laid (λ v. get_or list v d) n copy n
unfolding tabulate
laid_copied list d n few {copy} is long = record { first = ap (take n) is ∙ take-take n n list (omega arith) ∙ copied n few; long = long }
  where
    copied : (n : ℕ) → n ≤ length list → take n list ≡ tabulate (λ v. get_or list v d) 0 n
    copied zero low = refl
    copied (suc n) low = take-suc list n d (omega arith) ∙ ap (λ l. l ++ (get_or list n d ∷ [])) (copied n (omega arith))
        ∙ ap (λ (v : ℕ). tabulate (λ v. get_or list v d) 0 n ++ (get_or list v d ∷ [])) (sym (zero-add n)) ∙ sym (one_more (λ v. get_or list v d) 0 n)

-- fewer of them
take_tabulate : {A : Type 0} (f : ℕ → A) (start n m : ℕ) → n ≤ m → take n (tabulate f start m) ≡ tabulate f start n
unfolding tabulate
take_tabulate f start zero m low = refl
take_tabulate f start (suc n) zero low = absurd (omega arith)
take_tabulate f start (suc n) (suc m) low = ap (λ t. f start ∷ t) (take_tabulate f (start + 1) n m (omega arith))

pub laid_fewer : {A : Type 0} (f : ℕ → A) (size : ℕ) (list : List A) (i n : ℕ) → n ≤ i → Laid f size list i → take n list ≡ tabulate f 0 n
laid_fewer f size list i n low laid = sym (take-take n i list low) ∙ ap (take n) laid.first ∙ take_tabulate f 0 n i low

pub laid_all : {A : Type 0} (f : ℕ → A) (size : ℕ) (list : List A) (i n : ℕ) → i ≤ n → n ≤ i → Laid f size list i → Laid f size list n
laid_all f size list i n low high laid = let same : n ≡ i = omega arith in rw same laid

-- EDGES: a record that was put from the start of a list on stands in front
pub record_in_front : (g : Grid) (edges before : List ℕ) {after : List ℕ} → after ≡ put_bytes 0 (record_shown g edges) before
    → take (places g.height g.width) after ≡ record_shown g edges
unfolding put_bytes record_shown
record_in_front g edges before put =
    ap (take (places g.height g.width)) put
    ∙ take_at (record_shown g edges) (drop (0 + length (record_shown g edges)) before) (places g.height g.width) (length_field g.height g.width (bytes_shown edges))

-- ENDS
abbrev pub end_at_index : List ℤ → ℕ → ℤ
end_at_index ends v = get_or ends v (pos 0)

module _ (b : Board) (B : model.Board) (held : Held b B) where
  abbrev told : Grid
  told = grid_in b.kinds

  ends_shown : (n : ℕ) → n ≤ 256 → tabulate (end_at_index b.arrays.ends) 0 n ≡ tabulate (λ v. end_number ((view b.arrays).end v)) 0 n
  unfolding view
  ends_shown n few = tabulate_same (end_at_index b.arrays.ends) _ 0 n (λ v low below. default_free b.arrays.ends v (pos 0) (pos v) (omega (arith, held.ready.ends_long)) ∙ sym (number_of_end (get_or b.arrays.ends v (pos v))))

  -- THE ANSWER SHOWS THE BOARD
  pub shown_says : (r : Shown) → r.height ≡ told.height → r.width ≡ told.width
      → take (places told.height told.width) r.edges ≡ record_shown told b.arrays.edges → Laid (end_at_index b.arrays.ends) 256 r.ends 256
      → r.flag ≡ flag_in b.arrays.count → Shows r B
  unfolding model.shown view record_shown edges_only
  shown_says r high wide edges ends flag = record {
    height = high ∙ held.told.height;
    width = wide ∙ held.told.width;
    edges = rw (high, wide) (edges ∙ same_field);
    ends = rw (high, wide) (laid_fewer _ 256 r.ends 256 (pads told) held.ready.few_pads ends ∙ ends_shown (pads told) held.ready.few_pads ∙ same_ends);
    flag = flag ∙ ap (λ S. S.flag) held.shows;
  }
    where
      same_field : record_shown told b.arrays.edges ≡ (model.shown B).edges
      same_field = λ i. field (held.told.height i) (held.told.width i) (λ e. model.state_byte ((held.shows i).edge e))

      same_ends : tabulate (λ v. end_number ((view b.arrays).end v)) 0 (pads told) ≡ (model.shown B).ends
      same_ends = λ i. tabulate (λ v. end_number ((held.shows i).end v)) 0 (held.told.height i * held.told.width i)
