-- THE FUNCTION WITH PLAIN PARAMETERS meets its contract, for any engine: a walk of its code, by hand. The empty tally is stored in a local,
-- which is lent for a lifetime that is made for the call; when that is over, the tally comes back at the last value that the callee says, and
-- is handed back. The buffer is given up for good to the callee, as in Lent.antt.
use mathlib.Core.Path.{◌≡◌, refl, sym, ap, subst}
use Prim.Native.Nat.{ℕ, ◌<◌, ◌^◌}
use mathlib.Core.List.{[], ◌∷◌, List}
use lib.ListN.{length}
use lib.IntN.{ℤ}
use lib.Dec.{T, lit<}
use seplogic.Ra.Ura.{Ura}
use base.Fraction.{full_share}
use mir.Syntax.{Callee, named, w64, ty_unit}
use mir.Val.{Val, vint, vptr, has_ty, WT}
use base.Logic.{SProp, ent, id⊢}
use base.Fml.{GName, Lft, Share, Fml, ftrue, fsep, flft, fat, flent, fbor}
use prog.Wp.{Calls, Loops, WpFn, Tables}
use types.Logic.{Logic, sem}
use contract.Monad.{fact}
use types.Kit.{‵, raw, ◌⊛◌, some, later, ◌$◌, ◌∵◌, !, ⋆, qed, by, move, keep, drop, use0, use1, use2, use3, split, join, pick, fsplit, fjoin, fpick, fpack, feq_l, suffices, frame, await, done}
use types.Run.{look, init, forget, stop, hop, fld, from, load, addr, lit, of_opd, and_then, no_more, assigns, land, returns, enter, alloc1, alloc0, params1, pass1, pass0, free1, free0}
use types.Part.{agg, whole, sub, look_in}
use types.SemTy.{Body}
use types.Tokens.{lft_new, lft_end}
use sound.WpLaws.{FmC, fm_of, WpFn-mono}
use denote.RattleType.{owns}
use denote.Laws.{Is, shows}
use denote.Lend.{Held, lends_ref, ref_back}
use denote.Memory.{cell_at, part_at, part_of, mem}
use denote.Plain.{uint_vals, uint_Tells}
use denote.Signed.{sint_row_laws}
use denote.Builtin.{u8, u64, usize, unit}
use denote.Ref.{Bor, MutBor, MutRef}
use denote.Slice.{slice_val, MutSlice, ShrSlice, Room, finally, shr_slice_vals, mut_slice_vals, mut_slice_Tells, shr_slice_Tells, shr_slice_copy}
use denote.Signature.{plain}
use denote.Steps.{only, owned, peeks, heard}
use denote.Struct.Steps.{spelt}
use denote.Struct.Laws as LL
use denote.Triple.Statement.{Contract, Triple}
use denote.Triple.Call.{calls_at}
use denote.Triple.Entry.{on_entry}
use denote.Triple.Spec.{Meets, triple_of}
use denote.Triple.Walked.{says, needs, Stays, stay_none, stay_none_slice, gave_slice, walk_of, AllGo, Goes-none, Goes-none_slice, Goes-gave_slice, Walks, ends_at, walked, walk_Meets}
use denote.Triple.Clauses.{ensured, lasts, closing}
use denote.Exit.{yes}
use Rattle.tally.specs.declared.Tally.{Tally}
use Rattle.tally.specs.Empty.{empty}
use Rattle.tally.specs.contracts.Tally as T
use Rattle.tally.proofs.Tally.TheLaws as T'
use Rattle.lending.proofs.Engine.{Engine, cell, lent, made, lent_clauses, made_clauses, made_code, machine, Numbers, numbers}

abbrev stayed : Stays made.signature.params made.kept
stayed = (stay_none_slice (0 ∷ []) tt (plain (λ _. cell)) yes, (gave_slice (1 ∷ []) tt (plain (λ _. u8)), (stay_none (λ _. usize) yes, (stay_none (λ _. usize) yes, (stay_none (λ _. u64) yes, tt)))))

-- the machine value of the empty tally is one of the type
empty_is : Is T.the_row empty (machine empty ∷ [])
empty_is = LL.owes T.the_type T'.the_laws empty ((refl, lit< tt), ((refl, lit< tt), ((refl, lit< tt), tt)))

-- what a local holds, as a tally that can be lent, and back
module _ {M : Type 1} {𝓤 : Ura M} (𝓛 : Logic 𝓤) (t : Tally) (b : ℕ) where
  lendable : Is T.the_row t (machine t ∷ []) → ent 𝓤 (sem 𝓛 (fat full_share T'.mir b 0 (machine t))) (sem 𝓛 (part_at T.the_row full_share t b 0))
  unfolding part_of
  lendable is =
      qed 𝓛 (‵ (fat full_share T'.mir b 0 (machine t)) ∷ []) ∵ use1 𝓛 (‵ (cell_at full_share (T.the_row).mir (machine t ∷ []) b 0)) (𝓛.laws.at_raw full_share T'.mir b 0 (machine t)) $
      owned ! T.the_row (Is T.the_row) (LL.makes T.the_type T'.the_plain 𝓛) t (machine t ∷ []) is $ move ! (1 ∷ 0 ∷ []) $ fjoin ! $
      fpack ! (List Val) (λ vs. fsep (cell_at full_share (T.the_row).mir vs b 0) ((T.the_row).own_val t vs)) (machine t ∷ []) $ done !

  held_again : ent 𝓤 (sem 𝓛 (part_at T.the_row full_share t b 0)) (⋆ 𝓛 (‵ (fat full_share T'.mir b 0 (machine t)) ∷ ‵ ((T.the_row).own_val t (machine t ∷ [])) ∷ []))
  unfolding part_of
  held_again =
      qed 𝓛 (‵ (part_at T.the_row full_share t b 0) ∷ []) ∵ fpick ! (λ vs. fsplit ! $
      spelt ! T.the_row (Is T.the_row) (shows 𝓛 T.the_row) (LL.vals T.the_type T'.the_laws) (LL.tells T.the_type T'.the_laws) full_share t vs b 0 $
      use1 𝓛 (‵ (fat full_share T'.mir b 0 (machine t))) (𝓛.laws.raw_at full_share T'.mir b 0 (machine t)) $ frame ! $ done !)

module _ (E : Engine) where
  -- the contract of the thin function, which is all that the walk knows of it
  abbrev pub OverLent : {M : Type 1} {𝓤 : Ura M} (𝓛 : Logic 𝓤) → Contract 𝓤
  OverLent {𝓤 = 𝓤} 𝓛 = triple_of 𝓛 lent.signature (closing 𝓛 lent (lent_clauses E 𝓤))

  module _ {M : Type 1} {𝓤 : Ura M} (𝓛 : Logic 𝓤) where
    open 𝓛 use {H}

    module _ (κ₀ κ₁ : Lft) (q₀ q₁ : Share) (cs : Bor (List ℤ)) (bs : MutBor (List ℕ)) (height width limit : ℕ)
        (c_room : Room cell (length cs.now)) (b_room : Room u8 (length bs.now)) (height_fits : height < 2 ^ 64) (width_fits : width < 2 ^ 64) (limit_fits : limit < 2 ^ 64) where
      abbrev x : Bor (List ℤ) × (MutBor (List ℕ) × (ℕ × (ℕ × (ℕ × Unit {0}))))
      x = (cs, (bs, (height, (width, (limit, tt)))))

      -- the machine values
      abbrev cv : Val
      cv = slice_val cs.ref_ptr (length cs.now)

      abbrev bv : Val
      bv = slice_val bs.ref_ptr (length bs.now)

      abbrev at : List Val × (List Val × (List Val × (List Val × (List Val × Unit {0}))))
      at = (cv ∷ [], (bv ∷ [], (vint w64 height ∷ [], (vint w64 width ∷ [], (vint w64 limit ∷ [], tt)))))

      abbrev Cells : Fml
      Cells = (ShrSlice (named 0) κ₀ cell).own_val cs (cv ∷ [])

      abbrev Buffer : Fml
      Buffer = (MutSlice (named 1) κ₁ u8).own_val bs (bv ∷ [])

      -- what the buffer's borrow leaves to whoever lent it: its last bytes, and the borrow, closed
      abbrev Given : List ℕ → Fml
      Given zs = fsep (finally u8 bs.ghost_name zs) (fbor κ₁ (Held u8 (length bs.now) bs.ref_ptr.0 bs.ref_ptr.1 bs.ghost_name))

      abbrev Post : Val → SProp 𝓤
      Post = (walk_of 𝓛 made stayed (made_clauses E 𝓤)).post (((κ₀, (κ₁, tt)), (q₀, (q₁, tt)), tt, x, at), tt)

      exits : (r : Tally) (zs : List ℕ) → E.says height width cs.now limit empty bs.now r zs → length zs ≡ length bs.now
          → ent 𝓤 (⋆ 𝓛 (‵ ((T.the_row).own_val r (machine r ∷ [])) ∷ (‵ (flft κ₀ q₀) ⊛ ‵ (flft κ₁ q₁) ⊛ ‵ ftrue) ∷ ‵ (Given zs) ∷ ‵ Cells ∷ [])) (Post (machine r))
      exits r zs e l =
          qed 𝓛 (‵ ((T.the_row).own_val r (machine r ∷ [])) ∷ (‵ (flft κ₀ q₀) ⊛ ‵ (flft κ₁ q₁) ⊛ ‵ ftrue) ∷ ‵ (Given zs) ∷ ‵ Cells ∷ []) ∵
          suffices ! _ (ends_at 𝓛 made stayed (made_clauses E 𝓤) (((κ₀, (κ₁, tt)), (q₀, (q₁, tt)), tt, x, at), tt) (machine r) r (tt, (zs, (tt, (tt, (tt, tt))))) (tt, (l, (tt, (tt, (tt, tt)))))) $ says ! e $
          move ! (1 ∷ []) $ frame ! $ use0 𝓛 (‵ (Numbers height width limit)) (numbers height width limit 𝓛 height_fits width_fits limit_fits) $ move ! (2 ∷ 0 ∷ []) $ fjoin ! $ move ! (2 ∷ 0 ∷ []) $ fjoin ! $ done !

      -- the tally that is lent from the local at b for the lifetime ν under the name δ; what the callee's triple binds outside, and what it asks
      abbrev tally : ℕ → GName → MutBor Tally
      tally b δ = record { ref_ptr = (b, 0); ghost_name = δ; now = empty }

      abbrev Borrow : ℕ → ℕ → GName → Fml
      Borrow ν b δ = (MutRef (named 0) (ν ∷ []) T.the_row).own_val (tally b δ) (vptr b 0 ∷ [])

      abbrev to_callee : ℕ → ℕ → GName → (OverLent 𝓛).Ghost
      to_callee ν b δ = (((ν ∷ [], (κ₀, (κ₁, tt))), (full_share, (q₀, (q₁, tt))), tt, (tally b δ, x), (vptr b 0 ∷ [], at)), tt)

      goes_to : E.takes height width cs.now → (ν b : ℕ) (δ : GName)
          → ent 𝓤 (⋆ 𝓛 ((‵ (flft (ν ∷ []) full_share) ⊛ ‵ (flft κ₀ q₀) ⊛ ‵ (flft κ₁ q₁) ⊛ ‵ ftrue) ∷ (‵ (Borrow ν b δ) ⊛ ‵ Cells ⊛ ‵ Buffer) ∷ [])) ((OverLent 𝓛).pre (to_callee ν b δ))
      goes_to taken ν b δ =
          qed 𝓛 ((‵ (flft (ν ∷ []) full_share) ⊛ ‵ (flft κ₀ q₀) ⊛ ‵ (flft κ₁ q₁) ⊛ ‵ ftrue) ∷ (‵ (Borrow ν b δ) ⊛ ‵ Cells ⊛ ‵ Buffer) ∷ []) ∵ says ! (E.from_empty height width cs.now bs.now taken) $ frame ! $ split ! $ move ! (1 ∷ []) $ split ! $
          use0 𝓛 (‵ (Numbers height width limit)) (numbers height width limit 𝓛 height_fits width_fits limit_fits) $ move ! (2 ∷ 0 ∷ []) $ fjoin ! $ move ! (1 ∷ 0 ∷ []) $ fjoin ! $ move ! (1 ∷ 0 ∷ []) $ fjoin ! $ done !

      module _ (callee : Callee) (C : Calls 𝓤 H) (Λ : Loops 𝓤 H) (fm : FmC 𝓤 H 𝓛.laws C) (known : Triple 𝓤 (C callee) (OverLent 𝓛)) where
        walk : E.takes height width cs.now
            → ent 𝓤 (on_entry 𝓛 made.signature (κ₀, (κ₁, tt)) (q₀, (q₁, tt)) x at) (WpFn 𝓤 H C Λ (made_code callee) (cv ∷ bv ∷ vint w64 height ∷ vint w64 width ∷ vint w64 limit ∷ []) Post)
        walk taken =
            qed 𝓛 ((‵ (flft κ₀ q₀) ⊛ ‵ (flft κ₁ q₁) ⊛ ‵ ftrue) ∷ ‵ (owns (ShrSlice (named 0) κ₀ cell ∷ MutSlice (named 1) κ₁ u8 ∷ usize ∷ usize ∷ u64 ∷ []) x at) ∷ []) ∵
            move ! (1 ∷ []) $ fsplit ! $ use1 𝓛 (‵ Cells ⊛ ‵ Cells) ((shr_slice_copy 𝓛 (named 0) κ₀ cell (sint_row_laws w64)).twice cs (cv ∷ [])) $ split ! $ move ! (2 ∷ []) $ fsplit ! $ move ! (2 ∷ 3 ∷ 0 ∷ 4 ∷ []) $ keep ! (0 ∷ 1 ∷ 2 ∷ 3 ∷ []) $
            -- [the cells; the cells; the buffer; the tokens]
            enter ! C Λ (made_code callee) (cv ∷ bv ∷ vint w64 height ∷ vint w64 width ∷ vint w64 limit ∷ []) _ $
            alloc1 ! (λ l0. alloc1 ! (λ l1. alloc1 ! (λ l2. alloc1 ! (λ l3. alloc1 ! (λ l4. alloc1 ! (λ l5. alloc1 ! (λ l6. alloc1 ! (λ l7. alloc1 ! (λ l8. alloc1 ! (λ l9. alloc1 ! (λ l10. alloc1 ! (λ l11. alloc0 ! $ params1 ! $
            pass1 ! (init ! 20 refl (tt, (tt, (record { fits = c_room.0 }, tt)))) $ pass1 ! (init ! 18 refl (tt, (tt, (record { fits = b_room.0 }, tt)))) $
            pass1 ! (init ! 16 refl (tt, record { fits = height_fits })) $ pass1 ! (init ! 14 refl (tt, record { fits = width_fits })) $ pass1 ! (init ! 12 refl (tt, record { fits = limit_fits })) $ pass0 ! $
            -- [_11 0; _10 2; _9 4; _8 6; _7 8; _6 10; _5 12; _4 14; _3 16; _2 18; _1 20; _0 22; the cells 24, 25; the buffer 26; the tokens 27]
            assigns ! (agg ! (and_then ! (lit ! tt) (and_then ! (lit ! tt) (and_then ! (lit ! tt) (no_more !))))) (from ! (stop !))
            (init ! 8 refl (tt, (record { fits = lit< tt }, (record { fits = lit< tt }, (record { fits = lit< tt }, tt))))) $
            assigns ! (of_opd ! (load ! (from ! (stop !)) (look ! 8 refl))) (from ! (stop !)) (init ! 10 refl ((LL.lawful T.the_type T'.the_laws 𝓛).typed empty _ empty_is).0) $
            assigns ! (addr ! (from ! (stop !))) (from ! (stop !)) (init ! 4 refl (tt, tt)) $
            assigns ! (addr ! (from ! (fld ! refl (hop ! (look_in ! 18 (sub ! 0 refl (whole !))) (stop !))))) (from ! (stop !)) (init ! 2 refl (tt, tt)) $
            assigns ! (agg ! (and_then ! (load ! (from ! (stop !)) (look ! 2 refl)) (and_then ! (load ! (from ! (fld ! refl (stop !))) (look_in ! 18 (sub ! 1 refl (whole !)))) (no_more !)))) (from ! (stop !)) (init ! 0 refl (tt, (tt, (record { fits = b_room.0 }, tt)))) $
            -- the tally is lent for a lifetime of the call
            move ! (10 ∷ []) $ use1 𝓛 (‵ (part_at T.the_row full_share empty l6 0)) (lendable 𝓛 empty l6 empty_is) $ lft_new ! tt (λ ν. move ! (1 ∷ []) $
            use1 𝓛 (later (some (λ (δ : GName). ‵ (Borrow ν l6 δ) ⊛ ‵ (flent (ν ∷ []) (Body (mem T.the_row) l6 0 δ))))) (lends_ref 𝓛 T.the_row (named 0) (ν ∷ []) empty l6 0) $ await ! tt $ pick ! (λ δ. split ! $
            -- [the tally's borrow; the lender's part; its token; _11 3; _10 5; _9 7; _8 9; _7 11; _5 14; _4 16; _3 18; _2 20; _1 22; _0 24; the cells 26, 27; the buffer 28; the tokens 29]
            move ! (26 ∷ 28 ∷ 0 ∷ 2 ∷ 29 ∷ []) $ join ! $ move ! (1 ∷ 0 ∷ []) $ join ! $ move ! (1 ∷ 2 ∷ []) $ join ! $
            use2 𝓛 (raw ((OverLent 𝓛).pre (to_callee ν l6 δ))) (goes_to taken ν l6 δ) $
            -- [what the callee asks; the lender's part; _11 2; _10 4; _9 6; _8 8; _7 10; _5 13; _4 15; _3 17; _2 19; _1 21; _0 23; the cells 25]
            calls_at ! fm (OverLent 𝓛) known (to_callee ν l6 δ) (and_then ! (load ! (from ! (stop !)) (look ! 6 refl)) (and_then ! (load ! (from ! (stop !)) (look ! 21 refl)) (and_then ! (load ! (from ! (stop !)) (look ! 2 refl)) (and_then ! (load ! (from ! (stop !)) (look ! 17 refl)) (and_then ! (load ! (from ! (stop !)) (look ! 15 refl)) (and_then ! (load ! (from ! (stop !)) (look ! 13 refl)) (no_more !))))))) (λ w.
            use1 𝓛 (later (some (λ (u : Unit {0}). ((‵ (flft (ν ∷ []) full_share) ⊛ ‵ (flft κ₀ q₀) ⊛ ‵ (flft κ₁ q₁) ⊛ ‵ ftrue) ⊛ ‵ (unit.own_val u (w ∷ []))) ⊛ raw (ensured 𝓛 lent (lent_clauses E 𝓤) (ν ∷ [], (κ₀, (κ₁, tt))) (tally l6 δ, x) tt u)))) (id⊢ 𝓤 _) $ await ! tt $ pick ! (λ u.
            split ! $ move ! (1 ∷ []) $ use1 𝓛 (some (λ (zs : Tally × (Unit {0} × (List ℕ × (Unit {0} × (Unit {0} × (Unit {0} × Unit {0})))))). ‵ (lasts lent (ν ∷ [], (κ₀, (κ₁, tt))) (tally l6 δ, x) zs) ⊛ raw (fact 𝓤 (E.says height width cs.now limit empty bs.now zs.0 zs.1.1.0)))) (id⊢ 𝓤 _) $ pick ! (λ zs.
            split ! $ move ! (1 ∷ []) $ heard ! (E.says height width cs.now limit empty bs.now zs.0 zs.1.1.0) (λ e.
            fsplit ! $ fsplit ! $ move ! (1 ∷ []) $ drop ! $ move ! (1 ∷ []) $ fsplit ! $ drop ! $ fsplit ! $ fsplit ! $ fsplit ! $ move ! (1 ∷ []) $ feq_l ! (λ l. fjoin ! $
            -- [the last bytes and the buffer's borrow; …; the tally's last value; the tokens and the result; the lender's part; _11 5; …]
            move ! (3 ∷ []) $ split ! $ move ! (1 ∷ []) $ feq_l ! (λ w_is.
            land ! (from ! (stop !)) (init ! 11 refl (subst (λ (v : Val). T (has_ty ty_unit v) × WT v) (sym (ap only w_is)) (tt, tt))) $
            -- the lifetime is over, and the tally comes back at its last value
            split ! $ lft_end ! tt $ move ! (0 ∷ 5 ∷ 4 ∷ []) $ use3 𝓛 (later (‵ (part_at T.the_row full_share zs.0 l6 0))) (ref_back 𝓛 T.the_row (ν ∷ []) δ zs.0 l6 0) $ await ! tt $
            use1 𝓛 (‵ (fat full_share T'.mir l6 0 (machine zs.0)) ⊛ ‵ ((T.the_row).own_val zs.0 (machine zs.0 ∷ []))) (held_again 𝓛 zs.0 l6) $ split ! $
            move ! (1 ∷ []) $ peeks ! T.the_row (Is T.the_row) (shows 𝓛 T.the_row) zs.0 (machine zs.0 ∷ []) (λ is. move ! (1 ∷ 0 ∷ []) $
            -- [_6; what the tally owns; the tokens; the last bytes; …; _11 5; _10 7; _9 9; _8 11; _7 13; _5 16; _4 18; _3 20; _2 22; _1 24; _0 26; the cells 28]
            assigns ! (of_opd ! (load ! (from ! (stop !)) (look ! 0 refl))) (from ! (stop !)) (init ! 26 refl ((LL.lawful T.the_type T'.the_laws 𝓛).typed zs.0 _ is).0) $
            returns ! (look ! 26 refl) $ forget ! 0 refl $ forget ! 5 refl $ forget ! 7 refl $ forget ! 9 refl $ forget ! 11 refl $ forget ! 13 refl $ forget ! 16 refl $ forget ! 18 refl $ forget ! 20 refl $ forget ! 22 refl $ forget ! 24 refl $ forget ! 26 refl $
            move ! (26 ∷ 27 ∷ []) $ free1 ! $ move ! (24 ∷ 25 ∷ []) $ free1 ! $ move ! (22 ∷ 23 ∷ []) $ free1 ! $ move ! (20 ∷ 21 ∷ []) $ free1 ! $ move ! (18 ∷ 19 ∷ []) $ free1 ! $ move ! (16 ∷ 17 ∷ []) $ free1 ! $ move ! (0 ∷ 15 ∷ []) $ free1 ! $
            move ! (12 ∷ 13 ∷ []) $ free1 ! $ move ! (10 ∷ 11 ∷ []) $ free1 ! $ move ! (8 ∷ 9 ∷ []) $ free1 ! $ move ! (6 ∷ 7 ∷ []) $ free1 ! $ move ! (4 ∷ 5 ∷ []) $ free1 ! $ free0 ! $
            keep ! (0 ∷ 1 ∷ 2 ∷ 4 ∷ []) $ by ! (exits zs.0 zs.1.1.0 e l))))))))))))))))))))))

    walks : (callee : Callee) (C : Calls 𝓤 H) (Λ : Loops 𝓤 H) → FmC 𝓤 H 𝓛.laws C → Triple 𝓤 (C callee) (OverLent 𝓛) → Walks 𝓛 made stayed (WpFn 𝓤 H C Λ (made_code callee)) (made_clauses E 𝓤)
    walks callee C Λ fm known = walked 𝓛 made stayed (made_clauses E 𝓤) (WpFn 𝓤 H C Λ (made_code callee)) (λ κs. (shr_slice_vals, (mut_slice_vals, (uint_vals w64, (uint_vals w64, (uint_vals w64, tt))))))
        (λ κs. (shr_slice_Tells (named 0) κs.0 cell, (mut_slice_Tells (named 1) κs.1.0 u8, (uint_Tells w64, (uint_Tells w64, (uint_Tells w64, tt))))))
        (λ κs qs bounds a g are. needs 𝓤 (E.takes a.1.1.0 a.1.1.1.0 a.0.now) _ (λ taken. walk κs.0 κs.1.0 qs.0 qs.1.0 a.0 a.1.0 a.1.1.0 a.1.1.1.0 a.1.1.1.1.0 are.0.0.1 are.1.0.0.1 are.1.1.0.1 are.1.1.1.0.1 are.1.1.1.1.0.1 callee C Λ fm known taken))

    goes : AllGo 𝓛 2 made.signature.params made.kept stayed
    goes = (
      Goes-none_slice 𝓛 2 (0 ∷ []) tt (plain (λ _. cell)) yes,
      (
        Goes-gave_slice 𝓛 2 1 tt (plain (λ _. u8)),
        (Goes-none 𝓛 2 (λ _. usize) yes (λ κs x f. refl), (Goes-none 𝓛 2 (λ _. usize) yes (λ κs x f. refl), (Goes-none 𝓛 2 (λ _. u64) yes (λ κs x f. refl), tt))),
      ),
    )

    -- the function's code meets its contract wherever its callee meets the thin function's
    pub made_meets : (callee : Callee) (𝓣 : Tables 𝓤 H) → Triple 𝓤 (𝓣.C callee) (OverLent 𝓛) → Meets 𝓛 made.signature (WpFn 𝓤 H 𝓣.C 𝓣.Λ (made_code callee)) (closing 𝓛 made (made_clauses E 𝓤))
    made_meets callee 𝓣 known = walk_Meets 𝓛 made stayed goes (made_clauses E 𝓤) (WpFn 𝓤 H 𝓣.C 𝓣.Λ (made_code callee)) (WpFn-mono 𝓤 H 𝓛.laws 𝓣 (made_code callee)) (walks callee 𝓣.C 𝓣.Λ (fm_of 𝓤 H 𝓛.laws 𝓣) known)
