-- THE THIN FUNCTION over a lent tally meets its contract, for any engine: a walk of its code, by hand. The tally is copied out of the opened
-- borrow and passed to the engine by value with the cells, the buffer and the three numbers; what comes back is stored before the borrow is
-- closed. The buffer is given up for good: what the engine says of its last bytes is what the thin function says.
use mathlib.Core.Path.{◌≡◌, refl}
use Prim.Native.Nat.{ℕ, ◌<◌, ◌^◌}
use mathlib.Core.List.{[], ◌∷◌, List}
use lib.ListN.{length}
use lib.IntN.{ℤ}
use seplogic.Ra.Ura.{Ura}
use base.Fraction.{full_share}
use mir.Syntax.{Callee, named, w64}
use mir.Val.{Val, vunit, vint, vptr}
use base.Logic.{SProp, ent, id⊢}
use base.Fml.{GName, Lft, Share, Fml, ftrue, fsep, flft, fobs, fbor}
use prog.Wp.{Calls, Loops, WpFn, Tables}
use types.Logic.{Logic}
use contract.Monad.{fact}
use types.Kit.{‵, raw, ◌⊛◌, some, later, ◌$◌, ◌∵◌, !, ⋆, qed, by, move, keep, drop, use0, use1, use2, split, join, pick, fsplit, fsplit3, fjoin, fjoin3, feq_i, feq_l, suffices, frame, await, done}
use types.Run.{look, look_raw, init, store_raw, forget, stop, hop, fld, from, load, addr, unit_lit, of_opd, and_then, no_more, assigns, land, returns, enter, alloc1, alloc0, params1, pass1, pass0, free1, free0}
use types.Part.{agg, whole, sub, look_in}
use types.SemTy.{Body}
use sound.WpLaws.{FmC, fm_of, WpFn-mono}
use denote.RattleType.{owns}
use denote.Laws.{Is, shows}
use denote.Lend.{Held}
use denote.Memory.{mem}
use denote.Plain.{uint_vals, uint_Tells}
use denote.Signed.{sint_row_laws}
use denote.Builtin.{u8, u64, usize}
use denote.Ref.{Bor, MutBor, MutRef, mut_vals, mut_Tells}
use denote.Slice.{slice_val, MutSlice, ShrSlice, Room, finally, shr_slice_vals, mut_slice_vals, mut_slice_Tells, shr_slice_Tells, shr_slice_copy}
use denote.Signature.{plain}
use denote.Steps.{opens, closes, peeks, heard}
use denote.Struct.Steps.{spelt}
use denote.Struct.Laws as LL
use denote.Triple.Statement.{Contract, Triple}
use denote.Triple.Call.{calls_at}
use denote.Triple.Entry.{on_entry}
use denote.Triple.Spec.{Meets, triple_of}
use denote.Triple.Walked.{says, needs, Stays, stay_ref, stay_none, stay_none_slice, gave_slice, walk_of, AllGo, Goes-none, Goes-none_slice, Goes-gave_slice, Goes-ref, Walks, ends_at, walked, walk_Meets}
use denote.Triple.Clauses.{ensured, lasts, closing}
use denote.Exit.{yes}
use Rattle.tally.specs.declared.Tally.{Tally}
use Rattle.tally.specs.contracts.Tally as T
use Rattle.tally.proofs.Tally.TheLaws as T'
use Rattle.lending.proofs.Engine.{Engine, cell, by_value, lent, value_clauses, lent_clauses, lent_code, machine, Numbers, numbers}

abbrev stayed : Stays lent.signature.params lent.kept
stayed = (stay_ref (0 ∷ []) tt (plain (λ _. T.the_row)), (stay_none_slice (1 ∷ []) tt (plain (λ _. cell)) yes, (gave_slice (2 ∷ []) tt (plain (λ _. u8)), (stay_none (λ _. usize) yes, (stay_none (λ _. usize) yes, (stay_none (λ _. u64) yes, tt))))))

module _ (E : Engine) where
  -- the contract of the engine by value, which is all that the walk knows of it
  abbrev pub ByValue : {M : Type 1} {𝓤 : Ura M} (𝓛 : Logic 𝓤) → Contract 𝓤
  ByValue {𝓤 = 𝓤} 𝓛 = triple_of 𝓛 by_value.signature (closing 𝓛 by_value (value_clauses E 𝓤))

  module _ {M : Type 1} {𝓤 : Ura M} (𝓛 : Logic 𝓤) where
    open 𝓛 use {H}

    module _ (κ₀ κ₁ κ₂ : Lft) (q₀ q₁ q₂ : Share) (b o : ℕ) (γ : GName) (h : Tally) (cs : Bor (List ℤ)) (bs : MutBor (List ℕ)) (height width limit : ℕ)
        (c_room : Room cell (length cs.now)) (b_room : Room u8 (length bs.now)) (height_fits : height < 2 ^ 64) (width_fits : width < 2 ^ 64) (limit_fits : limit < 2 ^ 64) where
      abbrev x : MutBor Tally × (Bor (List ℤ) × (MutBor (List ℕ) × (ℕ × (ℕ × (ℕ × Unit {0})))))
      x = (record { ref_ptr = (b, o); ghost_name = γ; now = h }, (cs, (bs, (height, (width, (limit, tt))))))

      -- the machine values
      abbrev cv : Val
      cv = slice_val cs.ref_ptr (length cs.now)

      abbrev bv : Val
      bv = slice_val bs.ref_ptr (length bs.now)

      abbrev at : List Val × (List Val × (List Val × (List Val × (List Val × (List Val × Unit {0})))))
      at = (vptr b o ∷ [], (cv ∷ [], (bv ∷ [], (vint w64 height ∷ [], (vint w64 width ∷ [], (vint w64 limit ∷ [], tt))))))

      abbrev Cells : Fml
      Cells = (ShrSlice (named 1) κ₁ cell).own_val cs (cv ∷ [])

      abbrev Buffer : Fml
      Buffer = (MutSlice (named 2) κ₂ u8).own_val bs (bv ∷ [])

      -- what the buffer's borrow leaves to whoever lent it: its last bytes, and the borrow, closed
      abbrev Given : List ℕ → Fml
      Given zs = fsep (finally u8 bs.ghost_name zs) (fbor κ₂ (Held u8 (length bs.now) bs.ref_ptr.0 bs.ref_ptr.1 bs.ghost_name))

      abbrev Post : Val → SProp 𝓤
      Post = (walk_of 𝓛 lent stayed (lent_clauses E 𝓤)).post (((κ₀, (κ₁, (κ₂, tt))), (q₀, (q₁, (q₂, tt))), tt, x, at), tt)

      exits : (r : Tally) (zs : List ℕ) → E.says height width cs.now limit h bs.now r zs → length zs ≡ length bs.now
          → ent 𝓤 (⋆ 𝓛 (‵ (fobs γ ((T.the_row).coded.code r)) ∷ ‵ (fbor κ₀ (Body (mem T.the_row) b o γ)) ∷ ‵ (flft κ₀ q₀) ∷ (‵ (flft κ₁ q₁) ⊛ ‵ (flft κ₂ q₂) ⊛ ‵ ftrue) ∷ ‵ (Given zs) ∷ ‵ Cells ∷ [])) (Post vunit)
      exits r zs e l =
          qed 𝓛 (‵ (fobs γ ((T.the_row).coded.code r)) ∷ ‵ (fbor κ₀ (Body (mem T.the_row) b o γ)) ∷ ‵ (flft κ₀ q₀) ∷ (‵ (flft κ₁ q₁) ⊛ ‵ (flft κ₂ q₂) ⊛ ‵ ftrue) ∷ ‵ (Given zs) ∷ ‵ Cells ∷ []) ∵
          suffices ! _ (ends_at 𝓛 lent stayed (lent_clauses E 𝓤) (((κ₀, (κ₁, (κ₂, tt))), (q₀, (q₁, (q₂, tt))), tt, x, at), tt) vunit tt (r, (tt, (zs, (tt, (tt, (tt, tt)))))) (tt, (tt, (l, (tt, (tt, (tt, tt))))))) $ says ! e $
          move ! (2 ∷ 3 ∷ []) $ join ! $ frame ! $ feq_i ! (List Val) (vptr b o ∷ []) (vptr b o ∷ []) refl $ fjoin3 ! $
          use0 𝓛 (‵ (Numbers height width limit)) (numbers height width limit 𝓛 height_fits width_fits limit_fits) $ move ! (2 ∷ 0 ∷ []) $ fjoin ! $ move ! (2 ∷ 0 ∷ []) $ fjoin ! $ move ! (1 ∷ 0 ∷ []) $ fjoin ! $
          feq_i ! (List Val) (vunit ∷ []) (vunit ∷ []) refl $ move ! (1 ∷ 0 ∷ []) $ done !

      -- what the callee's triple binds outside, and what it asks
      abbrev to_callee : (ByValue 𝓛).Ghost
      to_callee = (((κ₁, (κ₂, tt)), (q₁, (q₂, tt)), tt, (h, x.1), (machine h ∷ [], at.1)), tt)

      goes_to : E.asks height width cs.now h bs.now
          → ent 𝓤 (⋆ 𝓛 ((‵ (flft κ₁ q₁) ⊛ ‵ (flft κ₂ q₂) ⊛ ‵ ftrue) ∷ (‵ ((T.the_row).own_val h (machine h ∷ [])) ⊛ ‵ Cells ⊛ ‵ Buffer) ∷ [])) ((ByValue 𝓛).pre to_callee)
      goes_to asked =
          qed 𝓛 ((‵ (flft κ₁ q₁) ⊛ ‵ (flft κ₂ q₂) ⊛ ‵ ftrue) ∷ (‵ ((T.the_row).own_val h (machine h ∷ [])) ⊛ ‵ Cells ⊛ ‵ Buffer) ∷ []) ∵ says ! asked $ frame ! $ split ! $ move ! (1 ∷ []) $ split ! $
          use0 𝓛 (‵ (Numbers height width limit)) (numbers height width limit 𝓛 height_fits width_fits limit_fits) $ move ! (2 ∷ 0 ∷ []) $ fjoin ! $ move ! (1 ∷ 0 ∷ []) $ fjoin ! $ move ! (1 ∷ 0 ∷ []) $ fjoin ! $ done !

      module _ (callee : Callee) (C : Calls 𝓤 H) (Λ : Loops 𝓤 H) (fm : FmC 𝓤 H 𝓛.laws C) (known : Triple 𝓤 (C callee) (ByValue 𝓛)) where
        walk : E.asks height width cs.now h bs.now
            → ent 𝓤 (on_entry 𝓛 lent.signature (κ₀, (κ₁, (κ₂, tt))) (q₀, (q₁, (q₂, tt))) x at) (WpFn 𝓤 H C Λ (lent_code callee) (vptr b o ∷ cv ∷ bv ∷ vint w64 height ∷ vint w64 width ∷ vint w64 limit ∷ []) Post)
        walk asked =
            qed 𝓛 ((‵ (flft κ₀ q₀) ⊛ ‵ (flft κ₁ q₁) ⊛ ‵ (flft κ₂ q₂) ⊛ ‵ ftrue) ∷ ‵ (owns (MutRef (named 0) κ₀ T.the_row ∷ ShrSlice (named 1) κ₁ cell ∷ MutSlice (named 2) κ₂ u8 ∷ usize ∷ usize ∷ u64 ∷ []) x at) ∷ []) ∵ split ! $
            move ! (2 ∷ []) $ fsplit ! $ fsplit3 ! $ drop ! $ move ! (2 ∷ []) $ fsplit ! $ use1 𝓛 (‵ Cells ⊛ ‵ Cells) ((shr_slice_copy 𝓛 (named 1) κ₁ cell (sint_row_laws w64)).twice cs (cv ∷ [])) $ split ! $ move ! (2 ∷ []) $ fsplit ! $
            -- [the buffer; the numbers; the cells; the cells; obs; the borrow; its token; the tokens]
            move ! (4 ∷ 5 ∷ 6 ∷ 2 ∷ 3 ∷ 0 ∷ 7 ∷ []) $ keep ! (0 ∷ 1 ∷ 2 ∷ 3 ∷ 4 ∷ 5 ∷ 6 ∷ []) $
            enter ! C Λ (lent_code callee) (vptr b o ∷ cv ∷ bv ∷ vint w64 height ∷ vint w64 width ∷ vint w64 limit ∷ []) _ $
            alloc1 ! (λ l0. alloc1 ! (λ l1. alloc1 ! (λ l2. alloc1 ! (λ l3. alloc1 ! (λ l4. alloc1 ! (λ l5. alloc1 ! (λ l6. alloc1 ! (λ l7. alloc1 ! (λ l8. alloc1 ! (λ l9. alloc1 ! (λ l10. alloc0 ! $ params1 ! $
            pass1 ! (init ! 18 refl (tt, tt)) $ pass1 ! (init ! 16 refl (tt, (tt, (record { fits = c_room.0 }, tt)))) $ pass1 ! (init ! 14 refl (tt, (tt, (record { fits = b_room.0 }, tt)))) $
            pass1 ! (init ! 12 refl (tt, record { fits = height_fits })) $ pass1 ! (init ! 10 refl (tt, record { fits = width_fits })) $ pass1 ! (init ! 8 refl (tt, record { fits = limit_fits })) $ pass0 ! $
            -- the borrow is opened, and the tally copied out of it
            move ! (22 ∷ 23 ∷ 24 ∷ []) $ opens ! tt T.the_row {h = h} b o (λ vs. spelt ! T.the_row (Is T.the_row) (shows 𝓛 T.the_row) (LL.vals T.the_type T'.the_laws) (LL.tells T.the_type T'.the_laws) full_share h vs b o $
            -- [the struct's cell; what the tally owns; the open borrow; obs; auth; _10 5; _9 7; _8 9; _7 11; _6 13; _5 15; _4 17; _3 19; _2 21; _1 23; _0 25; the cells 27, 28; the buffer 29; the tokens 30]
            move ! (1 ∷ []) $ peeks ! T.the_row (Is T.the_row) (shows 𝓛 T.the_row) h (machine h ∷ []) (λ was.
            assigns ! (of_opd ! (load ! (from ! (hop ! (look ! 23 refl) (stop !))) (look_raw ! 1 refl))) (from ! (stop !)) (init ! 9 refl ((LL.lawful T.the_type T'.the_laws 𝓛).typed h _ was).0) $
            assigns ! (addr ! (from ! (fld ! refl (hop ! (look_in ! 19 (sub ! 0 refl (whole !))) (stop !))))) (from ! (stop !)) (init ! 7 refl (tt, tt)) $
            assigns ! (agg ! (and_then ! (load ! (from ! (stop !)) (look ! 7 refl)) (and_then ! (load ! (from ! (fld ! refl (stop !))) (look_in ! 19 (sub ! 1 refl (whole !)))) (no_more !)))) (from ! (stop !)) (init ! 5 refl (tt, (tt, (record { fits = b_room.0 }, tt)))) $
            move ! (27 ∷ 29 ∷ 0 ∷ 30 ∷ []) $ join ! $ move ! (1 ∷ 0 ∷ []) $ join ! $ move ! (1 ∷ 0 ∷ []) $
            use2 𝓛 (raw ((ByValue 𝓛).pre to_callee)) (goes_to asked) $
            calls_at ! fm (ByValue 𝓛) known to_callee (and_then ! (load ! (from ! (stop !)) (look ! 9 refl)) (and_then ! (load ! (from ! (stop !)) (look ! 21 refl)) (and_then ! (load ! (from ! (stop !)) (look ! 5 refl)) (and_then ! (load ! (from ! (stop !)) (look ! 17 refl)) (and_then ! (load ! (from ! (stop !)) (look ! 15 refl)) (and_then ! (load ! (from ! (stop !)) (look ! 13 refl)) (no_more !))))))) (λ w.
            use1 𝓛 (later (some (λ (r : Tally). ((‵ (flft κ₁ q₁) ⊛ ‵ (flft κ₂ q₂) ⊛ ‵ ftrue) ⊛ ‵ ((T.the_row).own_val r (w ∷ []))) ⊛ raw (ensured 𝓛 by_value (value_clauses E 𝓤) (κ₁, (κ₂, tt)) (h, x.1) tt r)))) (id⊢ 𝓤 _) $ await ! tt $ pick ! (λ r.
            split ! $ move ! (1 ∷ []) $ use1 𝓛 (some (λ (zs : Unit {0} × (Unit {0} × (List ℕ × (Unit {0} × (Unit {0} × (Unit {0} × Unit {0})))))). ‵ (lasts by_value (κ₁, (κ₂, tt)) (h, x.1) zs) ⊛ raw (fact 𝓤 (E.says height width cs.now limit h bs.now r zs.1.1.0)))) (id⊢ 𝓤 _) $ pick ! (λ zs.
            split ! $ move ! (1 ∷ []) $ heard ! (E.says height width cs.now limit h bs.now r zs.1.1.0) (λ e. fsplit ! $ drop ! $ fsplit ! $ drop ! $ fsplit ! $ fsplit ! $ fsplit ! $ move ! (1 ∷ []) $ feq_l ! (λ l. fjoin ! $
            -- [the last bytes and the buffer's borrow; …; the tokens and the result; the struct's cell; …]
            move ! (2 ∷ []) $ split ! $ move ! (1 ∷ []) $
            peeks ! T.the_row (Is T.the_row) (shows 𝓛 T.the_row) r (w ∷ []) (λ is.
            land ! (from ! (stop !)) (init ! 14 refl ((LL.lawful T.the_type T'.the_laws 𝓛).typed r _ is).0) $
            -- [what the new tally owns; the tokens; the last bytes; …; the struct's cell 4; the open borrow; obs; auth; _10 8; …; _0 28; the cells 30]
            assigns ! (of_opd ! (load ! (from ! (stop !)) (look ! 14 refl))) (from ! (hop ! (look ! 26 refl) (stop !))) (store_raw ! 4 refl ((LL.lawful T.the_type T'.the_laws 𝓛).typed r _ is).0) $
            assigns ! (of_opd ! (unit_lit !)) (from ! (stop !)) (init ! 28 refl (tt, tt)) $
            move ! (4 ∷ 0 ∷ 5 ∷ 6 ∷ 7 ∷ []) $ closes ! tt T.the_row r (w ∷ []) b o $
            -- [obs; the borrow; its token; the tokens; the last bytes; …; _10 6; …; _0 26; the cells 28]
            returns ! (look ! 26 refl) $ forget ! 6 refl $ forget ! 8 refl $ forget ! 10 refl $ forget ! 12 refl $ forget ! 14 refl $ forget ! 16 refl $ forget ! 18 refl $ forget ! 20 refl $ forget ! 22 refl $ forget ! 24 refl $ forget ! 26 refl $
            move ! (26 ∷ 27 ∷ []) $ free1 ! $ move ! (24 ∷ 25 ∷ []) $ free1 ! $ move ! (22 ∷ 23 ∷ []) $ free1 ! $ move ! (20 ∷ 21 ∷ []) $ free1 ! $ move ! (18 ∷ 19 ∷ []) $ free1 ! $ move ! (16 ∷ 17 ∷ []) $ free1 ! $ move ! (14 ∷ 15 ∷ []) $ free1 ! $ move ! (12 ∷ 13 ∷ []) $ free1 ! $ move ! (10 ∷ 11 ∷ []) $ free1 ! $ move ! (8 ∷ 9 ∷ []) $ free1 ! $ move ! (6 ∷ 7 ∷ []) $ free1 ! $ free0 ! $
            keep ! (0 ∷ 1 ∷ 2 ∷ 3 ∷ 4 ∷ 6 ∷ []) $ by ! (exits r zs.1.1.0 e l))))))))))))))))))))

    walks : (callee : Callee) (C : Calls 𝓤 H) (Λ : Loops 𝓤 H) → FmC 𝓤 H 𝓛.laws C → Triple 𝓤 (C callee) (ByValue 𝓛) → Walks 𝓛 lent stayed (WpFn 𝓤 H C Λ (lent_code callee)) (lent_clauses E 𝓤)
    walks callee C Λ fm known = walked 𝓛 lent stayed (lent_clauses E 𝓤) (WpFn 𝓤 H C Λ (lent_code callee)) (λ κs. (mut_vals, (shr_slice_vals, (mut_slice_vals, (uint_vals w64, (uint_vals w64, (uint_vals w64, tt)))))))
        (λ κs. (mut_Tells (named 0) κs.0 T.the_row, (shr_slice_Tells (named 1) κs.1.0 cell, (mut_slice_Tells (named 2) κs.1.1.0 u8, (uint_Tells w64, (uint_Tells w64, (uint_Tells w64, tt)))))))
        (λ κs qs bounds a g are. needs 𝓤 (E.asks a.1.1.1.0 a.1.1.1.1.0 a.1.0.now a.0.now a.1.1.0.now) _ (λ asked. walk κs.0 κs.1.0 κs.1.1.0 qs.0 qs.1.0 qs.1.1.0 a.0.ref_ptr.0 a.0.ref_ptr.1 a.0.ghost_name a.0.now a.1.0 a.1.1.0 a.1.1.1.0 a.1.1.1.1.0 a.1.1.1.1.1.0 are.1.0.0.1 are.1.1.0.0.1 are.1.1.1.0.1 are.1.1.1.1.0.1 are.1.1.1.1.1.0.1 callee C Λ fm known asked))

    goes : AllGo 𝓛 3 lent.signature.params lent.kept stayed
    goes = (
      Goes-ref 𝓛 3 0 tt (plain (λ _. T.the_row)),
      (
        Goes-none_slice 𝓛 3 (1 ∷ []) tt (plain (λ _. cell)) yes,
        (
          Goes-gave_slice 𝓛 3 2 tt (plain (λ _. u8)),
          (Goes-none 𝓛 3 (λ _. usize) yes (λ κs x f. refl), (Goes-none 𝓛 3 (λ _. usize) yes (λ κs x f. refl), (Goes-none 𝓛 3 (λ _. u64) yes (λ κs x f. refl), tt))),
        ),
      ),
    )

    -- the thin function's code meets its contract wherever its callee meets the engine's by value
    pub lent_meets : (callee : Callee) (𝓣 : Tables 𝓤 H) → Triple 𝓤 (𝓣.C callee) (ByValue 𝓛) → Meets 𝓛 lent.signature (WpFn 𝓤 H 𝓣.C 𝓣.Λ (lent_code callee)) (closing 𝓛 lent (lent_clauses E 𝓤))
    lent_meets callee 𝓣 known = walk_Meets 𝓛 lent stayed goes (lent_clauses E 𝓤) (WpFn 𝓤 H 𝓣.C 𝓣.Λ (lent_code callee)) (WpFn-mono 𝓤 H 𝓛.laws 𝓣 (lent_code callee)) (walks callee 𝓣.C 𝓣.Λ (fm_of 𝓤 H 𝓛.laws 𝓣) known)
