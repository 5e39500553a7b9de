-- What pairs off with a normal netlist is normal itself, if it is sound and all of it is reached. Assumes nothing.
use mathlib.Core.Path.{◌≡◌, refl, sym, ap, ◌∙◌, subst}
use mathlib.Core.Bool.{true, false, cond, false≢true, Bool}
use mathlib.Core.List.{List}
use Prim.Native.Nat.{ℕ, ◌≤◌, ◌<◌}
use native.Mathlib.Omega.{arith}
use native.Mathlib.Decide.{dec_lt}
use lib.Dec.{ltb}
use lib.ListN.{length, get_or-eq_default}
use borrow.Author.Tests.{ltb-true, lt-ltb}
use Rattle.logic.proofs.Tests.{cond_has}
use Rattle.value.specs.declared.Net.{Net}
use Rattle.value.specs.declared.Slot.{Slot}
use Rattle.value.specs.declared.Driver.{Driver}
use Rattle.value.specs.declared.Driver.TheVariants as driven
use Rattle.value.specs.Value.{driver, slot_at}
use Rattle.value.proofs.Laws.{driver-cell}
use Rattle.cell.specs.declared.Cell.{Cell}
use Rattle.cell.specs.declared.Cell.TheVariants.{Input}
use Rattle.netlist.specs.Shape.{visit, visit_mut, has_effects}
use Rattle.netlist.specs.Netlist.{Netlist, cell_in}
use Rattle.std.specs.Prelude.{None, Some}
use Rattle.design.specs.Queue.{net_in, source_in}
use Rattle.compact.specs.Compact.{keep, is_kept}
use Rattle.basics.proofs.Members.{all-imp}
use Rattle.order_laws.proofs.Sorts.{ByKind, effects-by, inputs-by}
use Rattle.kept.proofs.Sound.{Inside, Sound}
use Rattle.normal.specs.Paired.{Alike, renumber, PairedBy}
use Rattle.normal.proofs.Normal.{look_in, Still, Normal}
use Rattle.normal.proofs.Rules.{is_ruled, Leads, Follows, still-follows}
use Rattle.normal.proofs.Alike.{visit-same, image-alike, renumber-slot, renumber-same, renumber-fixes, bufs-by, image-sort}

-- a cell that a rule looks into is in a slot of the netlist
pub record FoundAt (cs : List Cell) (n : Net) (c : Cell) : Type 0 where
  pub slot : Slot
  pub drives : driver n ≡ driven.Cell slot
  pub inside : slot.0 < length cs
  pub is : cell_in cs slot.0 ≡ c

pub found_at : (cs : List Cell) (n : Net) (c : Cell) → look_in cs n ≡ Some c → is_ruled c ≡ true → FoundAt cs n c
found_at cs n c k r = go (driver n) refl
  where
    inner : (x : Slot) → driver n ≡ driven.Cell x → cell_in cs x.0 ≡ c → Dec (x.0 < length cs) → FoundAt cs n c
    inner x e f (yes l) = record { slot = x; drives = e; inside = l; is = f }
    inner x e f (no l) =
        let i : Input 0 ≡ c = sym (get_or-eq_default cs (Input 0) (omega arith)) ∙ f in
        absurd (false≢true (ap is_ruled i ∙ r))

    go : (x : Driver) → driver n ≡ x → FoundAt cs n c
    go (driven.Const t) e = let z : None ≡ Some c = sym (ap (source_in cs) e) ∙ k in absurd (false≢true cc)
    go (driven.Cell x) e = let z : Some (cell_in cs x.0) ≡ Some c = sym (ap (source_in cs) e) ∙ k in inner x e (cc) (dec_lt x.0 (length cs))

module _ (p : ℕ → ℕ) (e d : Netlist) (rank rank' : ℕ → ℕ) (pairs : PairedBy p e d) (normal : Normal d rank) (sound : Sound e rank') where
  abbrev total : ℕ
  total = length e.cells

  abbrev cell : ℕ → Cell
  cell = cell_in e.cells

  abbrev image : ℕ → Cell
  image s = cell_in d.cells (p s)

  same : {sort : Cell → Bool} → ByKind sort → (s : ℕ) → s < total → sort (cell s) ≡ sort (image s)
  same by s l = image-sort by (renumber p) (cell s) (image s) (pairs.cells s l)

  target_small : (s : ℕ) → s < total → p s ≤ 65536
  target_small s l =
      let a : p s < length d.cells = pairs.inside s l in
      let b : length d.cells ≤ 65536 = normal.sound.few in
      omega arith

  -- the pairing, and slot 0 for what is no slot: it leads to slots everywhere
  unfoldable within : ℕ → ℕ
  within s = cond (ltb s total) (p s) 0

  within-as : (s : ℕ) → s < total → within s ≡ p s
  unfolding within
  within-as s l = rw (lt-ltb s total l)

  within-small : (s : ℕ) → within s ≤ 65536
  unfolding within
  within-small s = cond_has (λ (i : ℕ). i ≤ 65536) (ltb s total) (p s) 0 (λ t. target_small s (ltb-true s total t)) (λ t. omega arith)

  abbrev renamed : Net → Net
  renamed = renumber within

  image-of : (s : ℕ) → s < total → Alike (visit_mut renamed (cell s)) (image s)
  image-of s l =
      subst (λ (c : Cell). Alike c (image s))
      (visit-same (renumber p) renamed (cell s) (all-imp (Inside e.cells) (λ n. renumber p n ≡ renamed n)
      (λ n h. renumber-same p within n (λ x k. sym (within-as x.0 (h x k)))) (visit (cell s)) (sound.inside s l)))
      (pairs.cells s l)

  follows : Follows renamed (look_in e.cells) (look_in d.cells)
  follows = record { fixes = renumber-fixes within within-small; known = leads }
    where
      leads : (n : Net) → Leads renamed (look_in e.cells n) (look_in d.cells (renamed n))
      leads n c f r =
          let at : FoundAt e.cells n c = found_at e.cells n c f r in
          let s : ℕ = at.slot.0 in
          record {
            cell = image s;
            found =
                ap (look_in d.cells) (renumber-slot within n at.slot at.drives ∙ ap net_in (within-as s at.inside))
                ∙ ap (source_in d.cells) (driver-cell (slot_at (p s)) (omega (arith, target_small s at.inside)));
            alike = subst (λ (x : Cell). Alike (visit_mut renamed x) (image s)) at.is (image-of s at.inside);
          }

  still : (s : ℕ) → s < total → Still e.cells (cell s)
  still s l =
      let there : Still d.cells (image s) = normal.still (p s) (pairs.inside s l) in
      record {
        unbuffered = same bufs-by s l ∙ there.unbuffered;
        still = still-follows renamed (look_in e.cells) (look_in d.cells) follows (cell s) (image s) (image-of s l) there.still;
      }

  distinct : (s s' : ℕ) → s < total → s' < total → has_effects (cell s) ≡ false → Alike (cell s) (cell s') → s ≡ s'
  distinct s s' l l' h a =
      pairs.single s s' l l'
      (normal.distinct (p s) (p s') (pairs.inside s l) (pairs.inside s' l') (sym (same effects-by s l) ∙ h)
      (image-alike (renumber p) (cell s) (cell s') (image s) (image s') (pairs.cells s l) (pairs.cells s' l') a))

  pub paired-normal : ((s : ℕ) → s < total → is_kept e.bits (keep e) s ≡ true) → Normal e rank'
  paired-normal reached = record {
    sound = sound;
    single = λ s l h. pairs.bits s l ∙ normal.single (p s) (pairs.inside s l) (sym (same inputs-by s l) ∙ h);
    still = still;
    distinct = distinct;
    reached = reached;
  }
