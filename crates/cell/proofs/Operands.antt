-- Fields 1, 2 and 3 alone are operands. Assumes nothing.
use mathlib.Core.Path.{◌≡◌, refl, sym, ◌∙◌}
use mathlib.Core.Bool.{Bool, true, false, false≢true}
use mathlib.Core.Logic.{◌⊎◌, inl, inr}
use Prim.Native.Nat.{ℕ}
use lib.Dec.{eqb}
use borrow.Author.Tests.{eqb-true}
use Rattle.kinds.specs.Kinds.{use_of}
use Rattle.cell.specs.declared.Record.{Record}
use Rattle.cell.specs.Operands.{is_operand}

pub operand-field : (r : Record) (f : ℕ) → is_operand r f ≡ true → (f ≡ 1) ⊎ ((f ≡ 2) ⊎ (f ≡ 3))
unfolding is_operand use_of
operand-field r f o = go (eqb f 1) (eqb f 2) (eqb f 3) refl refl refl
  where
    go : (a b c : Bool) → eqb f 1 ≡ a → eqb f 2 ≡ b → eqb f 3 ≡ c → (f ≡ 1) ⊎ ((f ≡ 2) ⊎ (f ≡ 3))
    go true b c p q s = inl (eqb-true f 1 p)
    go false true c p q s = inr (inl (eqb-true f 2 q))
    go false false true p q s = inr (inr (eqb-true f 3 s))
    go false false false p q s = let none : is_operand r f ≡ false = rw (p, q, s) in absurd (false≢true (sym none ∙ o))
