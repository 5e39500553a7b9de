-- An answer says what its verdict was. Assumes nothing.
use mathlib.Core.Path.{◌≡◌, refl}
use Prim.Native.Nat.{ℕ}
use native.Mathlib.Omega.{arith}
use Rattle.std.specs.Prelude.{Ok, Err}
use Rattle.refusals.specs.declared.Refusal.{Refusal}
use Rattle.refusals.specs.Refusals.{Verdict}
use Rattle.calls.specs.Answers.{answer_by}

pub answered : {A : Type 0} (v : Verdict) (told a : A) → answer_by v told ≡ Ok a → (v ≡ Ok tt) × (a ≡ told)
answered (Ok u) told a e = (refl, cc)
answered (Err x) told a e = let z : ◌≡◌ {A = ℕ} 0 1 = cc in absurd (omega arith)

pub turned_away : {A : Type 0} (v : Verdict) (told : A) (x : Refusal) → answer_by v told ≡ Err x → v ≡ Err x
turned_away (Ok u) told x e = let z : ◌≡◌ {A = ℕ} 0 1 = cc in absurd (omega arith)
turned_away (Err y) told x e = cc
