-- What is known while a record is followed place by place. The lines of its first places are a drawing of their own; as long as nothing was
-- wrong, the bytes so far are what a record may hold, and the ends say what they should of these lines. And a record of an ordinary drawing
-- is never found wrong. It rests on the theory of ends (crate `ends`), which knows lines between pads and no board.
use Prim.Native.Nat.{ℕ, zero, suc, ◌%◌, ◌/◌, ◌≤◌, ◌<◌}
use Rattle.std.specs.Prelude.{◌≡◌, ◌⊎◌, Bool, ◌&&◌, List, ltb}
use Rattle.std.proofs.Math.Path.{refl, ap}
use Rattle.std.proofs.Common.{sym, ◌∙◌, inl, inr, arith}
use Rattle.std.proofs.Math.Bool.{true, false}
use Rattle.std.proofs.Math.Decide.{ℕ_discrete}
use borrow.Author.Tests.{eq-eqb, eqb-true, lt-ltb, ltb-true}
use Rattle.std.proofs.Math.Dec.{eqb}
use Rattle.std.proofs.Math.ListN.{get_or}
use Rattle.rules.specs.Grid.{Edge, right, down, first, second, Place, edge, no_edge, place_at, field_side, places, Cell, blank, clue, hole, Grid, OnBoard}
use Rattle.rules.specs.Drawing.{Drawing, drawn, Line, Placed, Ordinary}
use Rattle.rules.specs.Record.{undecided_byte, line_byte, none_byte, byte_of, byte_at_place, field, record_of, place_number}
use Rattle.rules.specs.Places.{zero≢one}
use Rattle.rules.proofs.Places.{pads_apart, one_edge}
use Rattle.rules.specs.Tests.{both, both_on, conflict, not_so}
use Rattle.rules.specs.Chains.{Along, line_back}
use Rattle.rules.proofs.Chains.{edge_of_line, line_forward, line_of_edge}
use Rattle.rules.specs.RecordLaws.{get_or_from_zero}
use Rattle.rules.proofs.RecordLaws.{edge_number_in_field, edge_at_number, number_of_edge}
use Rattle.std.specs.Prelude.{if◌then◌else◌}
use Rattle.model.specs.JoinedEnds.{End, at_pad, bare_end, unjoinable, joined_ends}
use Rattle.model.specs.PadTests.{is_clue, on_board}
use Rattle.model.specs.BoardLaws.{on_board_test, on_board_of_test, clue_is_clue}
use Rattle.model.specs.Judge.{Followed, wrong, so_far, after_line, after_edge, after_place, and_then, followed}
use Rattle.ends.specs.Ends.{Ends, Added}
use Rattle.ends.specs.Storing.{bare_ends, joined_say}
use Rattle.ends.specs.Refutation.{nothing_against}

the_ends : {a b : ℕ → End} → so_far a ≡ so_far b → a ≡ b
the_ends h = cc

module _ (g : Grid) (wide : 2 ≤ g.width) (bytes : List ℕ) where
  abbrev pub byte : ℕ → ℕ
  byte n = get_or bytes n undecided_byte

  abbrev pub number : Edge → ℕ
  number e = place_number g.width e

  -- the place of a number
  abbrev pub place : ℕ → Place
  place n = place_at g.width (n / field_side g.width) (n % field_side g.width)

  abbrev pub all_places : ℕ
  all_places = places g.height g.width

  -- THE LINES OF THE FIRST n PLACES, as a drawing
  unfoldable pub is_shown : ℕ → Edge → Bool
  is_shown n e = on_board g e && (ltb (number e) n && eqb (byte (number e)) line_byte)

  unfoldable pub shown : ℕ → Drawing
  shown n = record { right = λ v. is_shown n (right v); down = λ v. is_shown n (down v) }

  pub record Shown (n : ℕ) (e : Edge) : Type 0 where
    pub on : OnBoard g e
    pub before : number e < n
    pub line : byte (number e) ≡ line_byte

  shown_is : (n : ℕ) (e : Edge) → drawn (shown n) e ≡ is_shown n e
  unfolding shown
  shown_is n (right v) = refl
  shown_is n (down v) = refl

  pub what_is_shown : (n : ℕ) (e : Edge) → drawn (shown n) e ≡ true → Shown n e
  unfolding is_shown
  what_is_shown n e h =
      let (a, b) = both (on_board g e) _ (sym (shown_is n e) ∙ h) in
      let (c, d) = both (ltb (number e) n) _ b in
      record { on = on_board_of_test g e a; before = ltb-true _ _ c; line = eqb-true _ _ d }

  pub it_is_shown : (n : ℕ) (e : Edge) → Shown n e → drawn (shown n) e ≡ true
  unfolding is_shown
  it_is_shown n e s = shown_is n e ∙ both_on (on_board_test g e s.on) (both_on (lt-ltb _ _ s.before) (eq-eqb _ _ s.line))

  -- its lines are on the board
  pub shown_placed : (n : ℕ) → Placed g (shown n)
  shown_placed n e h = (what_is_shown n e h).on

  abbrev pub Lines : ℕ → ℕ → ℕ → Type 0
  Lines n = Line g.width (shown n)

  -- NO LINE MORE at place n: the drawing stays
  module _ (n : ℕ) (none : (e : Edge) → OnBoard g e → number e ≡ n → byte n ≡ line_byte → ⊥) where
    same_is : (e : Edge) → drawn (shown (suc n)) e ≡ drawn (shown n) e
    same_is e = go (drawn (shown (suc n)) e) refl
      where
        go : (b : Bool) → drawn (shown (suc n)) e ≡ b → drawn (shown (suc n)) e ≡ drawn (shown n) e
        go true h = let s = what_is_shown (suc n) e h in
            h ∙ sym (it_is_shown n e (record {
              on = s.on;
              before = elim (ℕ_discrete (number e) n)
                  [ yes k ↦ absurd (none e s.on k (sym (ap byte k) ∙ s.line)) | no k ↦ omega (arith, s.before) ];
              line = s.line;
            }))
        go false h = h ∙ sym (not_so (drawn (shown n) e) (λ k. let s = what_is_shown n e k in
            conflict (it_is_shown (suc n) e (record { on = s.on; before = omega (arith, s.before); line = s.line })) h))

    pub shown_stays : shown (suc n) ≡ shown n
    unfolding shown
    shown_stays = λ i. record { right = λ v. same_is (right v) i; down = λ v. same_is (down v) i }

  -- ONE LINE MORE at place n
  module _ (n : ℕ) (e : Edge) (on : OnBoard g e) (at : number e ≡ n) (line : byte n ≡ line_byte) where
    it_is_new : drawn (shown (suc n)) e ≡ true
    it_is_new = it_is_shown (suc n) e (record { on = on; before = omega arith; line = ap byte at ∙ line })

    pub no_line_yet : Lines n (first e) (second g.width e) → ⊥
    no_line_yet l =
        let t = edge_of_line g.width (shown n) _ _ l in
        let same : t.edge ≡ e = one_edge g wide t.edge e t.ends in
        let before = (what_is_shown n t.edge t.is).before in
        omega (arith, before, ap number same)

    pub line_added : Added (Lines n) (Lines (suc n)) (first e) (second g.width e)
    line_added = record {
      keep = λ x y l. let t = edge_of_line g.width (shown n) x y l in let s = what_is_shown n t.edge t.is in
          line_of_edge g.width (shown (suc n)) x y (record
          { edge = t.edge; is = it_is_shown (suc n) t.edge (record { on = s.on; before = omega (arith, s.before); line = s.line }); ends = t.ends });
      there = line_forward g.width (shown (suc n)) e it_is_new;
      back = line_back g.width (shown (suc n)) _ _ (line_forward g.width (shown (suc n)) e it_is_new);
      only = λ x y l. only x y (edge_of_line g.width (shown (suc n)) x y l);
    }
      where
        only : (x y : ℕ) → Along g.width (shown (suc n)) x y
            → Lines n x y ⊎ ((x ≡ first e) × (y ≡ second g.width e)) ⊎ ((x ≡ second g.width e) × (y ≡ first e))
        only x y t = let s = what_is_shown (suc n) t.edge t.is in elim (ℕ_discrete (number t.edge) n) [
          | no k ↦ inl (line_of_edge g.width (shown n) x y (record
              { edge = t.edge; is = it_is_shown n t.edge (record { on = s.on; before = omega (arith, s.before); line = s.line }); ends = t.ends }))
          | yes k ↦ inr (rw (one_number t.edge s.on k) at t.ends)
        ]
          where
            one_number : (x : Edge) → OnBoard g x → number x ≡ n → x ≡ e
            one_number x on_x k = same_edge (sym (edge_at_number g wide x on_x) ∙ ap place (k ∙ sym at) ∙ edge_at_number g wide e on)
              where
                same_edge : {a b : Edge} → edge a ≡ edge b → a ≡ b
                same_edge h = cc

  -- WHAT A BYTE MAY BE: at an edge 1 or 2, elsewhere 0
  abbrev pub MayHold : Place → ℕ → Type 0
  MayHold (edge e) b = (b ≡ line_byte) ⊎ (b ≡ none_byte)
  MayHold no_edge b = b ≡ undecided_byte

  -- KNOWN after n places: the bytes so far are what they may be, and the ends say what they should of the lines so far
  pub record Known (n : ℕ) (ends : ℕ → End) : Type 0 where
    pub bytes_fit : (i : ℕ) → i < n → MayHold (place i) (byte i)
    pub ends_say : Ends g.cell (Lines n) ends

  known_first : Known 0 (λ v. bare_end v (g.cell v))
  known_first = record {
    bytes_fit = λ i below. absurd (omega arith);
    ends_say = bare_ends g.cell (Lines 0) (λ x y l. let t = edge_of_line g.width (shown 0) x y l in omega (arith, (what_is_shown 0 t.edge t.is).before))
        (λ v. bare_end v (g.cell v)) (λ v no_clue. at_itself v (g.cell v) no_clue) (λ v c e. ap (bare_end v) e);
  }
    where
      at_itself : (v : ℕ) (C : Cell) → is_clue C ≡ false → bare_end v C ≡ at_pad v
      at_itself v blank h = refl
      at_itself v hole h = refl
      at_itself v (clue c) h = clue_is_clue {C = clue c} {c = c} h refl

  -- one place more
  module _ (n : ℕ) (inside : n < all_places) (ends : ℕ → End) (known : Known n ends) where
    one_more : MayHold (place n) (byte n) → (i : ℕ) → i < suc n → MayHold (place i) (byte i)
    one_more here i below = elim (ℕ_discrete i n) [ yes k ↦ rw k here | no k ↦ known.bytes_fit i (omega arith) ]

    -- without a line
    no_line_more : (ends' : ℕ → End) → so_far ends ≡ so_far ends' → MayHold (place n) (byte n)
        → ((e : Edge) → OnBoard g e → number e ≡ n → byte n ≡ line_byte → ⊥) → Known (suc n) ends'
    no_line_more ends' same here none = record {
      bytes_fit = one_more here;
      ends_say = rw (shown_stays n none, sym (the_ends same)) known.ends_say;
    }

    -- with one
    line_more : (e : Edge) → OnBoard g e → number e ≡ n → byte n ≡ line_byte → MayHold (place n) (byte n)
        → unjoinable (ends (first e)) (ends (second g.width e)) (second g.width e) ≡ false
        → Known (suc n) (joined_ends ends (first e) (second g.width e) (ends (first e)) (ends (second g.width e)))
    line_more e on at line here joinable = record {
      bytes_fit = one_more here;
      ends_say = joined_say (first e) (second g.width e) (line_back g.width (shown n)) known.ends_say (line_added n e on at line)
          (pads_apart g wide e) (no_line_yet n e on at line) joinable;
    }

    other_place : (e : Edge) → place n ≡ no_edge → OnBoard g e → number e ≡ n → ⊥
    other_place e is on at = let there = edge_at_number g wide e on in let h = ap place at in zero≢one (cc)

    step : (ends' : ℕ → End) → after_place g.width (place n) (byte n) ends ≡ so_far ends' → Known (suc n) ends'
    unfolding after_place after_edge after_line
    step ends' = go (place n) refl
      where
        go : (p : Place) → place n ≡ p → after_place g.width p (byte n) ends ≡ so_far ends' → Known (suc n) ends'
        go no_edge is h = by_byte (eqb (byte n) undecided_byte) refl h
          where
            by_byte : (b : Bool) → eqb (byte n) undecided_byte ≡ b → (if b then so_far ends else wrong) ≡ so_far ends' → Known (suc n) ends'
            by_byte false k h = zero≢one (cc)
            by_byte true k h = no_line_more ends' h (rw is (eqb-true _ _ k)) (λ e on at line. other_place e is on at)
        go (edge e) is h = by_line (eqb (byte n) line_byte) refl h
          where
            its : OnBoard g e × (number e ≡ n)
            its = number_of_edge g wide n inside e is

            by_none : (b : Bool) → eqb (byte n) none_byte ≡ b → (if b then so_far ends else wrong) ≡ so_far ends' → Known (suc n) ends'
            by_none false k h = zero≢one (cc)
            by_none true k h = let none : byte n ≡ none_byte = eqb-true _ _ k in
                no_line_more ends' h (rw is (inr none)) (λ x on at line. omega arith)

            by_join : byte n ≡ line_byte → (b : Bool) → unjoinable (ends (first e)) (ends (second g.width e)) (second g.width e) ≡ b
                → (if b then wrong else so_far (joined_ends ends (first e) (second g.width e) (ends (first e)) (ends (second g.width e)))) ≡ so_far ends'
                → Known (suc n) ends'
            by_join line true k h = zero≢one (cc)
            by_join line false k h = rw (sym (the_ends h)) (line_more e its.0 its.1 line (rw is (inl line)) k)

            by_line : (b : Bool) → eqb (byte n) line_byte ≡ b
                → (if b then after_line (first e) (second g.width e) ends else (if eqb (byte n) none_byte then so_far ends else wrong)) ≡ so_far ends' → Known (suc n) ends'
            by_line true k h = by_join (eqb-true _ _ k) (unjoinable (ends (first e)) (ends (second g.width e)) (second g.width e)) refl h
            by_line false k h = by_none (eqb (byte n) none_byte) refl h

  -- WHAT WAS NOT WRONG IS KNOWN
  pub known_so_far : (n : ℕ) → n ≤ all_places → (ends : ℕ → End) → followed g bytes n ≡ so_far ends → Known n ends
  unfolding followed
  known_so_far zero inside ends h = rw (sym (the_ends h)) known_first
  known_so_far (suc n) inside ends h = go (followed g bytes n) (known_so_far n (omega arith)) h
    where
      go : (f : Followed) → ((before : ℕ → End) → f ≡ so_far before → Known n before) → and_then f (after_place g.width (place n) (byte n)) ≡ so_far ends → Known (suc n) ends
      go wrong k h = zero≢one (cc)
      go (so_far before) k h = step n (omega arith) before (k before refl) ends h

  -- A RECORD OF AN ORDINARY DRAWING is never wrong
  module _ (D : Drawing) (ordinary : Ordinary g D) (its_record : bytes ≡ record_of g D) where
    pub its_byte : (n : ℕ) → n < all_places → byte n ≡ byte_at_place (λ e. byte_of (drawn D e)) (place n)
    unfolding record_of field
    its_byte n inside = ap (λ l. get_or l n undecided_byte) its_record ∙ get_or_from_zero _ all_places n undecided_byte inside

    -- the lines so far are lines of the drawing
    pub shown_drawn : (n : ℕ) (e : Edge) → drawn (shown n) e ≡ true → drawn D e ≡ true
    shown_drawn n e h = let s = what_is_shown n e h in
        is_line-true (drawn D e) (sym (its_byte (number e) (edge_number_in_field g wide e s.on) ∙ ap (byte_at_place _) (edge_at_number g wide e s.on)) ∙ s.line)
      where
        is_line-true : (b : Bool) → byte_of b ≡ line_byte → b ≡ true
        is_line-true true h = refl
        is_line-true false h = absurd (omega arith)

    within : (n x y : ℕ) → Lines n x y → Line g.width D x y
    within n x y l = let t = edge_of_line g.width (shown n) x y l in
        line_of_edge g.width D x y (record { edge = t.edge; is = shown_drawn n t.edge t.is; ends = t.ends })

    pub record GoesOn (n : ℕ) : Type 0 where
      pub ends : ℕ → End
      pub so : followed g bytes n ≡ so_far ends

    module _ (n : ℕ) (inside : n < all_places) (ends : ℕ → End) (so : followed g bytes n ≡ so_far ends) where
      line_goes_on : (e : Edge) → place n ≡ edge e → drawn D e ≡ true → byte n ≡ line_byte
          → unjoinable (ends (first e)) (ends (second g.width e)) (second g.width e) ≡ false
      line_goes_on e is d line =
          let its = number_of_edge g wide n inside e is in
          nothing_against (line_back g.width (shown n)) (known_so_far n (omega arith) ends so).ends_say ordinary.wired (within n) (line_back g.width D)
          (first e) (second g.width e) (pads_apart g wide e) (no_line_yet n e its.0 its.1 line) (line_forward g.width D e d)

      next : GoesOn (suc n)
      unfolding followed after_place after_edge after_line
      next = go (place n) refl (its_byte n inside)
        where
          go : (p : Place) → place n ≡ p → byte n ≡ byte_at_place (λ e. byte_of (drawn D e)) p → GoesOn (suc n)
          go no_edge is b = record { ends = ends; so = rw (so, is, b, followed, after_place) refl }
          go (edge e) is b = by_line (drawn D e) refl
            where
              by_line : (d : Bool) → drawn D e ≡ d → GoesOn (suc n)
              by_line true d = let line : byte n ≡ line_byte = b ∙ ap byte_of d in
                  record { ends = joined_ends ends (first e) (second g.width e) (ends (first e)) (ends (second g.width e)); so = rw (so, is, line, line_goes_on e is d line, followed, after_place, after_edge, after_line) refl }
              by_line false d = let none : byte n ≡ none_byte = b ∙ ap byte_of d in record { ends = ends; so = rw (so, is, none, followed, after_place, after_edge) refl }

    pub never_wrong : (n : ℕ) → n ≤ all_places → GoesOn n
    never_wrong zero inside = record { ends = λ v. bare_end v (g.cell v); so = unfold followed in refl }
    never_wrong (suc n) inside = let before = never_wrong n (omega arith) in next n (omega arith) before.ends before.so
