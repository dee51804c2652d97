-- An engine counts into a tally: it takes cells, a buffer, two sizes and a limit, and says what the tally and the buffer are after it. What it
-- asks and says is left open here. It comes as three functions: by value; over a lent tally, which calls the first; and with plain parameters,
-- which makes the tally, lends it to the second and hands it back. This file has the contracts of the three and the code of the last two.
use Prim.Native.Nat.{ℕ, ◌<◌, ◌^◌}
use mathlib.Core.Path.{refl}
use mathlib.Core.List.{[], ◌∷◌, ◌++◌, List}
use lib.IntN.{ℤ}
use seplogic.Ra.Ura.{Ura}
use mir.Syntax.{Ty, Lifetime, Callee, Local, Fn, Opd, named, erased, imm, mut, w8, w64, ty_unit, ty_int, ty_ref, ty_struct, tcons, tnil, local, value_local, memory_slot, place, deref, field, copy, int, opd_unit, rv_opd, addr_of, aggregate, assign, call, seq, return}
use mir.Val.{Val, vint, vstruct, vnil, vcons}
use base.Logic.{ent, emp}
use base.Fml.{Fml, ftrue, fsep}
use types.Logic.{Logic, sem}
use contract.Monad.{fact}
use types.Kit.{◌$◌, ◌∵◌, !, qed, fjoin, done}
use denote.Laws.{Is}
use denote.Memory.{pointee}
use denote.Plain.{uint_Makes}
use denote.Builtin.{u8, u64, usize, i64, unit, RefMut, SliceRef, SliceRefMut}
use denote.Exit.{yes}
use denote.RattleType.{RattleType}
use denote.Signature.{Slot, plain, Matches}
use denote.Steps.{owned, nothing}
use denote.Triple.Clauses.{Ended, Clauses}
use Rattle.tally.specs.declared.Tally.{Tally}
use Rattle.tally.specs.Empty.{empty}
use Rattle.tally.specs.contracts.Tally as T
use Rattle.tally.proofs.Tally.TheLaws as T'

-- WHAT AN ENGINE ASKS AND SAYS of the tally and the buffer before it and after it, and which grids it takes with an empty tally
pub record Engine : Type 1 where
  pub asks : (height width : ℕ) (cells : List ℤ) (t : Tally) (buffer : List ℕ) → Type 0
  pub takes : (height width : ℕ) (cells : List ℤ) → Type 0
  pub from_empty : (height width : ℕ) (cells : List ℤ) (buffer : List ℕ) → takes height width cells → asks height width cells empty buffer
  pub says : (height width : ℕ) (cells : List ℤ) (limit : ℕ) (t : Tally) (buffer : List ℕ) (t' : Tally) (buffer' : List ℕ) → Type 0

-- a cell of the grid
abbrev pub cell : RattleType
cell = i64

-- THE SIGNATURES, each with what is said of its parameters at exit
abbrev numbers_of : {n : ℕ} → List (Slot n)
numbers_of = plain (λ _. usize) ∷ plain (λ _. usize) ∷ plain (λ _. u64) ∷ []

abbrev pub by_value : Ended
by_value = record {
  signature = record {
    lifetimes = 2;
    outlives = [];
    params = plain (λ _. T.the_row) ∷ SliceRef 0 tt cell tt ∷ SliceRefMut 1 tt u8 tt ∷ numbers_of;
    result = plain (λ _. T.the_row);
  };
  kept = (yes, (yes, (yes, (yes, (yes, (yes, tt))))));
}

abbrev pub lent : Ended
lent = record {
  signature = record {
    lifetimes = 3;
    outlives = [];
    params = RefMut 0 tt T.the_row tt ∷ SliceRef 1 tt cell tt ∷ SliceRefMut 2 tt u8 tt ∷ numbers_of;
    result = plain (λ _. unit);
  };
  kept = (yes, (yes, (yes, (yes, (yes, (yes, tt))))));
}

abbrev pub made : Ended
made = record {
  signature = record {
    lifetimes = 2;
    outlives = [];
    params = SliceRef 0 tt cell tt ∷ SliceRefMut 1 tt u8 tt ∷ numbers_of;
    result = plain (λ _. T.the_row);
  };
  kept = (yes, (yes, (yes, (yes, (yes, tt)))));
}

-- THE CONTRACTS
module _ (E : Engine) {M : Type 1} (𝓤 : Ura M) where
  abbrev pub value_clauses : Clauses 𝓤 by_value
  value_clauses κs (tally, (cells, (buffer, (height, (width, (limit, _)))))) = record {
    ghost = Unit {0};
    requires = λ _. fact 𝓤 (E.asks height width cells.now tally buffer.now);
    ensures = λ _ r (_, (_, (buffer', _))). fact 𝓤 (E.says height width cells.now limit tally buffer.now r buffer'.now);
  }

  abbrev pub lent_clauses : Clauses 𝓤 lent
  lent_clauses κs (tally, (cells, (buffer, (height, (width, (limit, _)))))) = record {
    ghost = Unit {0};
    requires = λ _. fact 𝓤 (E.asks height width cells.now tally.now buffer.now);
    ensures = λ _ r (tally', (_, (buffer', _))). fact 𝓤 (E.says height width cells.now limit tally.now buffer.now tally'.now buffer'.now);
  }

  abbrev pub made_clauses : Clauses 𝓤 made
  made_clauses κs (cells, (buffer, (height, (width, (limit, _))))) = record {
    ghost = Unit {0};
    requires = λ _. fact 𝓤 (E.takes height width cells.now);
    ensures = λ _ r (_, (buffer', _)). fact 𝓤 (E.says height width cells.now limit empty buffer.now r buffer'.now);
  }

-- THE CODE
-- the type of a slice, and of a reference to a tally
abbrev slice : Ty → Ty
slice τ = ty_struct (38 ∷ 91 ∷ 93 ∷ []) (tcons τ (tcons (ty_int w64) tnil))

abbrev cells_type : Lifetime → Ty
cells_type ℓ = slice (ty_ref ℓ imm (pointee cell.written))

abbrev buffer_type : Lifetime → Ty
buffer_type ℓ = slice (ty_ref ℓ mut (ty_int w8))

abbrev lent_type : Lifetime → Ty
lent_type ℓ = ty_ref ℓ mut (pointee (T.the_row).written)

abbrev values : List Ty → List Local
values [] = []
values (τ ∷ τs) = local τ value_local ∷ values τs

abbrev whole : ℕ → Opd
whole i = copy (place i [])

-- `*tally = callee(*tally, cells, buffer, height, width, limit);`
abbrev pub lent_code : Callee → Fn
lent_code callee = record {
  lifetimes = 3;
  outlives = [];
  ty_params = [];
  givens = 0;
  params = 6;
  locals = values (ty_unit ∷ lent_type (named 0) ∷ cells_type (named 1) ∷ buffer_type (named 2) ∷ ty_int w64 ∷ ty_int w64 ∷ ty_int w64 ∷ T'.mir ∷ T'.mir ∷ ty_ref erased mut (ty_int w8) ∷ buffer_type erased ∷ []);
  body =
      seq (assign (place 8 []) (rv_opd (copy (place 1 (deref T'.mir ∷ [])))))
      (seq (assign (place 9 []) (addr_of (place 3 (field 0 ∷ deref (ty_int w8) ∷ []))))
      (seq (assign (place 10 []) (aggregate (whole 9 ∷ copy (place 3 (field 1 ∷ [])) ∷ [])))
      (seq (call callee (whole 8 ∷ whole 2 ∷ whole 10 ∷ whole 4 ∷ whole 5 ∷ whole 6 ∷ []) (place 7 []))
      (seq (assign (place 1 (deref T'.mir ∷ [])) (rv_opd (whole 7)))
      (seq (assign (place 0 []) (rv_opd opd_unit)) return)))));
}

-- `let mut tally = Tally::EMPTY; callee(&mut tally, cells, buffer, height, width, limit); tally`
abbrev pub made_code : Callee → Fn
made_code callee = record {
  lifetimes = 2;
  outlives = [];
  ty_params = [];
  givens = 0;
  params = 5;
  locals = values (T'.mir ∷ cells_type (named 0) ∷ buffer_type (named 1) ∷ ty_int w64 ∷ ty_int w64 ∷ ty_int w64 ∷ [])
      ++ (local T'.mir memory_slot ∷ values (T'.mir ∷ ty_unit ∷ lent_type erased ∷ ty_ref erased mut (ty_int w8) ∷ buffer_type erased ∷ []));
  body =
      seq (assign (place 7 []) (aggregate (int w64 0 ∷ int w64 0 ∷ int w64 481 ∷ [])))
      (seq (assign (place 6 []) (rv_opd (whole 7)))
      (seq (assign (place 9 []) (addr_of (place 6 [])))
      (seq (assign (place 10 []) (addr_of (place 2 (field 0 ∷ deref (ty_int w8) ∷ []))))
      (seq (assign (place 11 []) (aggregate (whole 10 ∷ copy (place 2 (field 1 ∷ [])) ∷ [])))
      (seq (call callee (whole 9 ∷ whole 1 ∷ whole 11 ∷ whole 3 ∷ whole 4 ∷ whole 5 ∷ []) (place 8 []))
      (seq (assign (place 0 []) (rv_opd (whole 6))) return))))));
}

-- each code has the signature that its contract is stated at
pub lent_matches : (callee : Callee) → Matches lent.signature (lent_code callee)
lent_matches callee κs = refl

pub made_matches : (callee : Callee) → Matches made.signature (made_code callee)
made_matches callee κs = refl

-- WHAT BOTH WALKS USE: a tally's machine value, and what the three numbers own
abbrev pub machine : Tally → Val
machine t = vstruct (vcons (vint w64 t.visited) (vcons (vint w64 t.layouts) (vcons (vint w64 t.fewest) vnil)))

module _ (height width limit : ℕ) where
  abbrev pub Numbers : Fml
  Numbers = fsep (usize.own_val height (vint w64 height ∷ [])) (fsep (usize.own_val width (vint w64 width ∷ [])) (fsep (u64.own_val limit (vint w64 limit ∷ [])) ftrue))

  pub numbers : {M : Type 1} {𝓤 : Ura M} (𝓛 : Logic 𝓤) → height < 2 ^ 64 → width < 2 ^ 64 → limit < 2 ^ 64 → ent 𝓤 (emp 𝓤) (sem 𝓛 Numbers)
  numbers 𝓛 height_fits width_fits limit_fits =
      qed 𝓛 [] ∵ nothing ! $ owned ! u64 (Is u64) (uint_Makes 𝓛 w64) limit _ (refl, limit_fits) $ fjoin ! $ owned ! usize (Is usize) (uint_Makes 𝓛 w64) width _ (refl, width_fits) $ fjoin ! $ owned ! usize (Is usize) (uint_Makes 𝓛 w64) height _ (refl, height_fits) $ fjoin ! $ done !
