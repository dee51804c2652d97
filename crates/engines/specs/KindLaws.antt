-- Laws of the kinds of small grids: how the next grid is found from the last pad on, and which kinds are the first. Assumes nothing.
use Rattle.std.specs.Prelude.{ℕ, zero, suc, ◌+◌, ◌-◌, ◌≤◌, ◌<◌, ◌≡◌, refl, Bool, true, false, ◌⊎◌, List, map, ltb, ℤ, negsuc, length, get_or, set, take, replicate}
use Rattle.std.proofs.Common.{length-take-le, get_or-take, arith, sym, ap, ◌∙◌, inl, inr, ⊎_elim, length-set, get_or-set_same, get_or-set_other, ext_get_or, ltb-true, ltb-false, add-one}
use Rattle.std.proofs.Math.Decide.{ℕ_discrete}
use Rattle.std.specs.List.{fold}
use Rattle.std.proofs.lemmas.List.Sums.{fold_more}
use Rattle.std.proofs.lemmas.List.{length-replicate, get_or-replicate, length-map}
use Rattle.std.proofs.Math.ListN.{get_or-map}
use Rattle.engines.specs.Kinds.{more_codes, codes_before, Kinds, Before, Next, cell_of_kind, cells_of}

lt_or_ge : (a b : ℕ) → (a < b) ⊎ (b ≤ a)
lt_or_ge a b = go (ltb a b) refl
  where
    go : (t : Bool) → ltb a b ≡ t → (a < b) ⊎ (b ≤ a)
    go true e = inl (ltb-true a b e)
    go false e = inr (ltb-false a b e)

-- ## How many codes there are

-- they are counted by a fold over the kinds of those pads
pub codes_folded : (kinds : List ℕ) (pad : ℕ) → pad ≤ length kinds → fold more_codes 0 (take pad kinds) ≡ codes_before kinds pad
unfolding codes_before
codes_folded kinds zero inside = refl
codes_folded kinds (suc pad) inside =
    rw (← add-one pad, fold_more more_codes 0 kinds pad 0 (omega arith)) (ap (λ (codes : ℕ). more_codes codes (get_or kinds pad 0)) (codes_folded kinds pad (omega arith)))

pub codes_few : (kinds : List ℕ) → Kinds kinds → (pad : ℕ) → pad ≤ length kinds → codes_before kinds pad ≤ pad
unfolding codes_before
codes_few kinds valid zero inside = omega arith
codes_few kinds valid (suc pad) inside =
    let few = codes_few kinds valid pad (omega arith) in
    let its_kind = valid.numbered pad (omega arith) in
    omega arith

pub codes_same : (kinds other : List ℕ) (pad : ℕ) → ((k : ℕ) → k < pad → get_or kinds k 0 ≡ get_or other k 0) → codes_before kinds pad ≡ codes_before other pad
unfolding codes_before
codes_same kinds other zero same = refl
codes_same kinds other (suc pad) same = rw (codes_same kinds other pad (λ k below. same k (omega arith)), same pad (omega arith)) refl

-- ## The next grid

-- the pads from this one on had their largest kinds, and are blank now; those before it are as they were
pub record Carried (kinds now : List ℕ) (pad : ℕ) : Type 0 where
  pub same_pads : length now ≡ length kinds
  pub before : (k : ℕ) → k < pad → get_or now k 0 ≡ get_or kinds k 0
  pub largest : (k : ℕ) → pad ≤ k → k < length kinds → codes_before kinds k + 2 ≤ get_or kinds k 0
  pub blank : (k : ℕ) → pad ≤ k → k < length kinds → get_or now k 0 ≡ 0

pub none_carried : (kinds : List ℕ) → Carried kinds kinds (length kinds)
none_carried kinds = record {
  same_pads = refl;
  before = λ k below. refl;
  largest = λ k from inside. absurd (omega arith);
  blank = λ k from inside. absurd (omega arith);
}

-- a grid that comes later differs first at a pad that has not its largest kind
changed_before : (kinds now : List ℕ) (pad : ℕ) → Carried kinds now pad → (other : List ℕ) → Kinds other → length other ≡ length kinds
    → (later : Before kinds other) → later.pad < pad
changed_before kinds now pad carried other valid long later = ⊎_elim (λ below. below) (λ from. absurd (
    let same = codes_same kinds other later.pad later.same in
    omega (arith, later.less, later.inside, carried.largest later.pad from later.inside, valid.numbered later.pad (omega (arith, later.inside)), same)))
    (lt_or_ge later.pad pad)

-- where every pad has its largest kind, none comes later, and all are blank again
pub none_later : (kinds now : List ℕ) (pad : ℕ) → pad ≤ 0 → Carried kinds now pad → Next kinds false now
none_later kinds now pad none carried = record {
  same_pads = carried.same_pads;
  its_kinds = record { numbered = λ k in_now. omega (arith, carried.blank k (omega arith) (let long = carried.same_pads in omega arith)) };
  later = λ e. absurd (cc);
  none_between = λ e. absurd (cc);
  last = λ e other valid long later. let k = changed_before kinds now pad carried other valid long later in omega arith;
  blank_again = λ e. ext_get_or 0 now (replicate (length kinds) 0) (carried.same_pads ∙ sym (length-replicate (length kinds) 0))
      (λ k in_now. let inside : k < length kinds = (let long = carried.same_pads in omega arith) in
      carried.blank k (omega arith) inside ∙ sym (get_or-replicate (length kinds) k 0 0 inside));
}

module _ (kinds now : List ℕ) (from : ℕ) (some : 0 < from) (inside : from ≤ length kinds) (carried : Carried kinds now from) where
  -- the last pad that is as it was
  abbrev pad : ℕ
  pad = from - 1

  same_codes : codes_before now pad ≡ codes_before kinds pad
  same_codes = codes_same now kinds pad (λ k below. carried.before k (omega arith))

  pub few_codes : Kinds kinds → codes_before now pad ≤ pad
  few_codes valid = let few = codes_few kinds valid pad (omega arith) in omega (arith, same_codes)

  after_set : (kind k : ℕ) → (k ≡ pad → ⊥) → get_or (set now pad kind) k 0 ≡ get_or now k 0
  after_set kind k other = get_or-set_other now pad k kind 0 other

  at_set : (kind : ℕ) → get_or (set now pad kind) pad 0 ≡ kind
  at_set kind = get_or-set_same now pad kind 0 (let k = carried.same_pads in omega arith)

  -- a pad with its largest kind is blank again, and the one before it is next
  pub carried_on : (codes : ℕ) → codes ≡ codes_before now pad → 2 + codes ≤ get_or now pad 0 → Carried kinds (set now pad 0) pad
  carried_on codes counted full = record {
    same_pads = length-set now pad 0 ∙ carried.same_pads;
    before = λ k below. after_set 0 k (λ e. omega arith) ∙ carried.before k (omega arith);
    largest = λ k from in_grid. elim (ℕ_discrete k pad) [
      | yes e ↦ rw e (omega (arith, same_codes, carried.before pad (omega arith)))
      | no other ↦ carried.largest k (omega arith) in_grid
    ];
    blank = λ k from in_grid. elim (ℕ_discrete k pad) [
      | yes e ↦ rw e (at_set 0)
      | no other ↦ after_set 0 k other ∙ carried.blank k (omega arith) in_grid
    ];
  }

  -- a pad whose kind can still grow takes the next one: that is the next grid
  module _ (valid : Kinds kinds) (codes : ℕ) (counted : codes ≡ codes_before now pad) (room : get_or now pad 0 < 2 + codes) where
    abbrev next : List ℕ
    next = set now pad (get_or now pad 0 + 1)

    abbrev kind : ℕ
    kind = get_or kinds pad 0

    its_kind : get_or now pad 0 ≡ kind
    its_kind = carried.before pad (omega arith)

    next_before : (k : ℕ) → k < pad → get_or next k 0 ≡ get_or kinds k 0
    next_before k below = after_set _ k (λ e. omega arith) ∙ carried.before k (omega arith)

    next_here : get_or next pad 0 ≡ kind + 1
    next_here = at_set _ ∙ ap (λ (n : ℕ). n + 1) its_kind

    next_blank : (k : ℕ) → pad < k → k < length kinds → get_or next k 0 ≡ 0
    next_blank k above in_grid = after_set _ k (λ e. omega arith) ∙ carried.blank k (omega arith) in_grid

    next_kinds : Kinds next
    next_kinds = record {
      numbered = λ k in_next.
          let long : length next ≡ length kinds = length-set now pad _ ∙ carried.same_pads in
          ⊎_elim (λ below.
          let here = next_before k below in
          let same = codes_same next kinds k (λ j under. next_before j (omega arith)) in
          omega (arith, valid.numbered k (omega arith), here, same))
          (λ from. elim (ℕ_discrete k pad) [
            | yes e ↦ rw e (let same = codes_same next now pad (λ j under. after_set _ j (λ e. omega arith)) in omega (arith, at_set (get_or now pad 0 + 1), same, room))
            | no other ↦ omega (arith, next_blank k (omega arith) (omega arith))
          ])
          (lt_or_ge k pad);
    }

    -- between the two lies none
    none_fits : (other : List ℕ) → Kinds other → length other ≡ length kinds → Before kinds other → Before other next → ⊥
    none_fits other others long later sooner =
        let from_kinds : later.pad ≤ pad = (let k = changed_before kinds now from carried other others long later in omega arith) in
        let to_next : sooner.pad ≤ pad = ⊎_elim (λ above. absurd (omega (arith, sooner.less, next_blank sooner.pad above (omega (arith, sooner.inside))))) (λ fine. fine) (lt_or_ge pad sooner.pad) in
        ⊎_elim
        (λ first. omega (arith, later.less, sooner.same later.pad first, next_before later.pad (omega arith)))
        (λ from. elim (ℕ_discrete later.pad sooner.pad) [
          | no apart ↦ omega (arith, sooner.less, later.same sooner.pad (omega arith), next_before sooner.pad (omega arith))
          | yes one ↦ elim (ℕ_discrete sooner.pad pad) [
            | no earlier ↦ omega (arith, rw one at later.less, sooner.less, next_before sooner.pad (omega arith))
            | yes here ↦ omega (arith, rw (one ∙ here) at later.less, rw here at sooner.less, next_here)
          ]
        ])
        (lt_or_ge later.pad sooner.pad)

    pub next_found : Next kinds true next
    next_found = record {
      same_pads = length-set now pad _ ∙ carried.same_pads;
      its_kinds = next_kinds;
      later = λ e. record { pad = pad; inside = omega arith; same = λ k below. sym (next_before k below); less = omega (arith, next_here) };
      none_between = λ e. none_fits;
      last = λ e. absurd (cc);
      blank_again = λ e. absurd (cc);
    }

-- ## The first grid

-- a field of blank pads is one of the grids
pub blank_kinds : (pads : ℕ) → Kinds (replicate pads 0)
blank_kinds pads = record { numbered = λ pad inside. rw (get_or-replicate {A = ℕ} pads pad 0 0 (let k = length-replicate {A = ℕ} pads 0 in omega arith)) (omega arith) }

-- ## Cells

-- the first ones are those of the kinds
pub cells_put : (kinds : List ℕ) (cells : List ℤ) → length kinds ≤ length cells
    → ((k : ℕ) → k < length kinds → get_or cells k (negsuc 0) ≡ cell_of_kind (get_or kinds k 0)) → take (length kinds) cells ≡ cells_of kinds
cells_put kinds cells long each = ext_get_or (negsuc 0) (take (length kinds) cells) (map cell_of_kind kinds) (length-take-le _ _ long ∙ sym (length-map kinds cell_of_kind))
    (λ k inside. let below : k < length kinds = (let e = length-take-le (length kinds) cells long in omega arith) in
    get_or-take (length kinds) cells k (negsuc 0) below ∙ each k below ∙ sym (get_or-map cell_of_kind kinds k 0))
