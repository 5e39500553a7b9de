-- Records and areas after a store, and the loop that loads a ticket. Assumes nothing.
use mathlib.Core.Path.{◌≡◌, refl, sym, ap, ◌∙◌, subst}
use mathlib.Core.Bool.{true}
use mathlib.Core.Logic.{inl, inr}
use mathlib.Core.List.{List}
use Prim.Native.Nat.{ℕ, ◌+◌, ◌*◌, ◌/◌, ◌<◌, ◌≤◌}
use native.Mathlib.Omega.{arith}
use native.Mathlib.Nat.{div-div-eq-div-mul}
use native.Mathlib.Decide.{dec_lt}
use lib.ListN.{length, get_or, set, length-set}
use lib.Seq.{get_or-set_same, get_or-set_other}
use mir.Syntax.{w8}
use mir.Val.{Fits}
use Rattle.cell.specs.declared.Record.{Record}
use Rattle.cell.specs.Bytes.{word16}
use Rattle.basics.specs.Lists.{tabulate}
use Rattle.cell.specs.Records.{record_at, records_of}
use Rattle.cell.proofs.RoundTrips.{low, high}
use Rattle.netlist.specs.inner.Areas.{word_record, store_words, records_in, Within, visited_at, numberer_from, numberer_at, keys_from, keys_at, areas, in_order}
use Rattle.netlist.proofs.Frames.{within-then, within_wider, within-set, record-kept, tabulate-same}

-- the words after the first, the second and the third store
abbrev head : Record → ℕ
head r = r.kind + 256 * (r.flags + 256 * r.bit)

abbrev w₁ : List ℕ → ℕ → Record → List ℕ
w₁ ws s r = set ws (s * 4) (head r)

abbrev w₂ : List ℕ → ℕ → Record → List ℕ
w₂ ws s r = set (w₁ ws s r) (s * 4 + 1) r.a

abbrev w₃ : List ℕ → ℕ → Record → List ℕ
w₃ ws s r = set (w₂ ws s r) (s * 4 + 2) r.b

pub store-within : (ws : List ℕ) (s : ℕ) (r : Record) → Within (s * 4) (s * 4 + 4) ws (store_words ws s r)
unfolding store_words
store-within ws s r =
    let step : (vs : List ℕ) (i v : ℕ) → s * 4 ≤ i → i < s * 4 + 4 → Within (s * 4) (s * 4 + 4) vs (set vs i v) =
    λ vs i v l m. within-set (s * 4) (s * 4 + 4) vs i v l m in
    within-then (s * 4) (s * 4 + 4) ws (w₃ ws s r) _
    (within-then (s * 4) (s * 4 + 4) ws (w₂ ws s r) (w₃ ws s r)
    (within-then (s * 4) (s * 4 + 4) ws (w₁ ws s r) (w₂ ws s r) (step ws (s * 4) (head r) (omega arith) (omega arith))
    (step (w₁ ws s r) (s * 4 + 1) r.a (omega arith) (omega arith)))
    (step (w₂ ws s r) (s * 4 + 2) r.b (omega arith) (omega arith)))
    (step (w₃ ws s r) (s * 4 + 3) r.c (omega arith) (omega arith))

pub stored_other : (ws : List ℕ) (s : ℕ) (r : Record) (u : ℕ) → (u ≡ s → ⊥) → word_record (store_words ws s r) u ≡ word_record ws u
stored_other ws s r u h = go (dec_lt u s)
  where
    go : Dec (u < s) → word_record (store_words ws s r) u ≡ word_record ws u
    go (yes l) = record-kept (s * 4) (s * 4 + 4) ws (store_words ws s r) (store-within ws s r) u (inl (omega arith))
    go (no l) = record-kept (s * 4) (s * 4 + 4) ws (store_words ws s r) (store-within ws s r) u (inr (omega arith))

-- the ranges of a record's fields in one word
pub record Sized (r : Record) : Type 0 where
  pub kind : r.kind < 256
  pub flags : r.flags < 256
  pub bit : r.bit < 65536

module _ (ws : List ℕ) (s : ℕ) (r : Record) (fits : s * 4 + 4 ≤ length ws) where
  stored-head : get_or (store_words ws s r) (s * 4) 0 ≡ head r
  unfolding store_words
  stored-head =
      get_or-set_other (w₃ ws s r) (s * 4 + 3) (s * 4) r.c 0 (omega arith) ∙ get_or-set_other (w₂ ws s r) (s * 4 + 2) (s * 4) r.b 0 (omega arith)
      ∙ get_or-set_other (w₁ ws s r) (s * 4 + 1) (s * 4) r.a 0 (omega arith) ∙ get_or-set_same ws (s * 4) (head r) 0 (omega arith)

  stored-a : get_or (store_words ws s r) (s * 4 + 1) 0 ≡ r.a
  unfolding store_words
  stored-a =
      get_or-set_other (w₃ ws s r) (s * 4 + 3) (s * 4 + 1) r.c 0 (omega arith)
      ∙ get_or-set_other (w₂ ws s r) (s * 4 + 2) (s * 4 + 1) r.b 0 (omega arith)
      ∙ get_or-set_same (w₁ ws s r) (s * 4 + 1) r.a 0 (simp length-set (omega arith))

  stored-b : get_or (store_words ws s r) (s * 4 + 2) 0 ≡ r.b
  unfolding store_words
  stored-b =
      get_or-set_other (w₃ ws s r) (s * 4 + 3) (s * 4 + 2) r.c 0 (omega arith)
      ∙ get_or-set_same (w₂ ws s r) (s * 4 + 2) r.b 0 (simp length-set (omega arith))

  stored-c : get_or (store_words ws s r) (s * 4 + 3) 0 ≡ r.c
  unfolding store_words
  stored-c = get_or-set_same (w₃ ws s r) (s * 4 + 3) r.c 0 (simp length-set (omega arith))

  pub stored_same : Sized r → word_record (store_words ws s r) s ≡ r
  unfolding word_record
  stored_same z =
      rw (
        stored-head,
        stored-a,
        stored-b,
        stored-c,
        ← div-div-eq-div-mul (head r) 256 256,
        low r.kind (r.flags + 256 * r.bit) z.kind,
        high r.kind (r.flags + 256 * r.bit) z.kind,
        low r.flags r.bit z.flags,
        high r.flags r.bit z.flags,
      )

sized : (t : List ℕ) (s : ℕ) (r : Record) → ((k : ℕ) → get_or t k 0 < 256) → r ≡ record_at t s → Sized r
unfolding record_at word16
sized t s r bytes e =
    subst Sized (sym e) (record { kind = bytes (s * 16); flags = bytes (s * 16 + 1); bit = omega (arith, bytes (s * 16 + 2), bytes (s * 16 + 2 + 1)) })

-- the loop of `load`
pub record Loading (t : List ℕ) (ws₀ ws : List ℕ) (s : ℕ) : Type 0 where
  pub long : 16384 ≤ length ws₀
  pub loaded : (u : ℕ) → u < s → word_record ws u ≡ record_at t u
  pub frame : Within 0 visited_at ws₀ ws

module _ (t : List ℕ) (n : ℕ) (ws₀ ws : List ℕ) (s : ℕ) (g : Loading t ws₀ ws s) where
  pub loading-more : s < n → n ≡ length t / 16 → length t / 16 ≤ 512 → (ws' : List ℕ) (r : Record) → r ≡ record_at t s → ws' ≡ store_words ws s r → ((k : ℕ) → Fits w8 (get_or t k 0)) → Loading t ws₀ ws' (s + 1)
  loading-more l count few ws' r e f bytes =
      let long : 16384 ≤ length ws = let h : 16384 ≤ length ws₀ = g.long in omega (arith, g.frame.same) in
      subst (λ (vs : List ℕ). Loading t ws₀ vs (s + 1)) (sym f) (record {
        long = g.long;
        loaded = λ u m. go u m long (sized t s r (λ k. (bytes k).fits) e) (dec_lt u s);
        frame = within-then 0 visited_at ws₀ ws (store_words ws s r) g.frame
            (within_wider (s * 4) (s * 4 + 4) 0 visited_at ws (store_words ws s r) (omega arith) (omega arith) (store-within ws s r));
      })
    where
      go : (u : ℕ) → u < s + 1 → 16384 ≤ length ws → Sized r → Dec (u < s) → word_record (store_words ws s r) u ≡ record_at t u
      go u m long z (yes k) = stored_other ws s r u (λ q. absurd (omega arith)) ∙ g.loaded u k
      go u m long z (no k) =
          let q : u ≡ s = omega arith in
          subst (λ (v : ℕ). word_record (store_words ws s r) v ≡ record_at t v) (sym q) (stored_same ws s r (omega arith) z ∙ e)

  pub loading-all : n ≡ length t / 16 → n ≤ s → records_in n ws ≡ records_of t
  unfolding records_in records_of
  loading-all e h = tabulate-same (word_record ws) (record_at t) n (λ u l. g.loaded u (omega arith)) ∙ ap (tabulate (record_at t)) e

-- the areas do not meet, and the two ways of counting agree
pub areas-apart : (in_order 0 areas ≡ true) × (numberer_at * 4 ≡ numberer_from) × (keys_at * 4 ≡ keys_from)
unfolding in_order
areas-apart = (refl, refl, refl)
