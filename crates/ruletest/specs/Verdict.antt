-- THE VERDICT on a record, as the judge computes it, in the words of the rules: at least 1 exactly where it is the record of an ordinary drawing, 2
-- exactly where it is that of a listed one. It rests on RuleTest.antt.
use Rattle.std.specs.Prelude.{ℕ, ◌≤◌, ◌≡◌, ◌↔◌, Bool, true, false, ◌&&◌, List}
use Rattle.std.proofs.Math.Path.{refl}
use Rattle.std.proofs.Common.{arith}
use Rattle.rules.specs.Grid.{Grid}
use Rattle.rules.specs.ProperGrid.{Proper}
use Rattle.rules.specs.Record.{OrdinaryRecord, ListedRecord}
use Rattle.rules.specs.Tests.{conflict}
use Rattle.std.specs.Prelude.{if◌then◌else◌}
use Rattle.model.specs.Judge.{is_ordinary_record, has_listed_shape, verdict}
use Rattle.ruletest.specs.RuleTest.{ordinary_exactly, listed_exactly}

module _ (g : Grid) (proper : Proper g) (bytes : List ℕ) where
  -- by the two tests
  record Told (ordinary shape : Bool) : Type 0 where
    is : verdict g bytes ≡ (if ordinary then (if shape then 2 else 1) else 0)

  told : Told (is_ordinary_record g bytes) (has_listed_shape g bytes)
  told = record { is = unfold verdict in refl }

  pub verdict_small : verdict g bytes ≤ 2
  verdict_small = go (is_ordinary_record g bytes) (has_listed_shape g bytes) told
    where
      go : (o s : Bool) → Told o s → verdict g bytes ≤ 2
      go false s t = omega (arith, t.is)
      go true false t = omega (arith, t.is)
      go true true t = omega (arith, t.is)

  some_test : (1 ≤ verdict g bytes) ↔ (is_ordinary_record g bytes ≡ true)
  some_test = go (is_ordinary_record g bytes) (has_listed_shape g bytes) told
    where
      go : (o s : Bool) → Told o s → (1 ≤ verdict g bytes) ↔ (o ≡ true)
      go false s t = ((λ h. absurd (omega (arith, t.is))), λ h. conflict h refl)
      go true false t = ((λ h. refl), λ h. omega (arith, t.is))
      go true true t = ((λ h. refl), λ h. omega (arith, t.is))

  both_tests : (verdict g bytes ≡ 2) ↔ (is_ordinary_record g bytes && has_listed_shape g bytes ≡ true)
  both_tests = go (is_ordinary_record g bytes) (has_listed_shape g bytes) told
    where
      go : (o s : Bool) → Told o s → (verdict g bytes ≡ 2) ↔ (o && s ≡ true)
      go false s t = ((λ h. absurd (omega (arith, t.is))), λ h. conflict h refl)
      go true false t = ((λ h. absurd (omega (arith, t.is))), λ h. conflict h refl)
      go true true t = ((λ h. refl), λ h. omega (arith, t.is))

  pub ordinary_verdict : (1 ≤ verdict g bytes) ↔ OrdinaryRecord g bytes
  ordinary_verdict = ((λ h. (ordinary_exactly g proper bytes).0 (some_test.0 h)), λ r. some_test.1 ((ordinary_exactly g proper bytes).1 r))

  pub listed_verdict : (verdict g bytes ≡ 2) ↔ ListedRecord g bytes
  listed_verdict = ((λ h. (listed_exactly g proper bytes).0 (both_tests.0 h)), λ r. both_tests.1 ((listed_exactly g proper bytes).1 r))
