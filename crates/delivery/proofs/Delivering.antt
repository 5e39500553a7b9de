-- A result put into the reply, if there is room. Assumes nothing.
use mathlib.Core.Path.{◌≡◌, sym, ap, ◌∙◌, subst}
use mathlib.Core.List.{List, [], ◌∷◌, ◌++◌}
use Prim.Native.Nat.{ℕ, ◌+◌, ◌*◌, ◌<◌, ◌≤◌}
use native.Mathlib.Omega.{arith}
use lib.ListN.{length, drop}
use lib.Seq.{sets, sets-eq}
use borrow.Author.Tests.{lt-ltb, le-ltb}
use Rattle.refusals.specs.declared.Refusal.{Refusal}
use Rattle.std.specs.Prelude.{Ok, Err, Result}
use Rattle.cell.specs.declared.Record.{Record}
use Rattle.netlist.specs.Netlist.{netlist_of}
use Rattle.netlist.proofs.Frames.{within-drop}
use Rattle.compact.specs.Compact.{compact}
use Rattle.design.specs.inner.Words.{netlist_in}
use Rattle.compact.specs.inner.Words.{Keeps}
use Rattle.compact.proofs.Tally.{all-is-count, all-few}
use Rattle.compact.proofs.Compacting.{compact-length}
use Rattle.refusals.specs.declared.Refusal.TheVariants.{ShortReply}
use Rattle.refusals.specs.Refusals.{first_of}
use Rattle.refusals.proofs.Stages.{first-refuses, first_passes, no-stage}
use Rattle.calls.specs.Calls.{put, room, encoded}
use Rattle.delivery.specs.inner.Delivery.{Delivers}
use Rattle.netlist.specs.inner.Areas.{replaced_at, visited_at}

-- bytes of which the count is known: 12, or they are written
module _ (bytes ws₀ ws reply : List ℕ) (count : ℕ) (size : length bytes ≡ count) (kept : drop 16384 ws ≡ drop 16384 ws₀) where
  pub delivers-none : length reply < count → Delivers bytes ws₀ ws reply reply (Err ShortReply)
  delivers-none h =
      let e : first_of (room reply bytes ∷ []) ≡ Err ShortReply = first-refuses (room reply bytes) [] (lt-ltb (length reply) (length bytes) (omega (arith, size))) in
      record { said = rw e; left = rw e; rest = kept }

  pub delivers-all : count ≤ length reply → (reply' : List ℕ) → reply' ≡ put reply bytes → Delivers bytes ws₀ ws reply reply' (Ok count)
  delivers-all h reply' f =
      let e : first_of (room reply bytes ∷ []) ≡ Ok tt =
      first_passes (room reply bytes) [] (le-ltb (length reply) (length bytes) (omega (arith, size))) ∙ no-stage in
      record { said = rw (e, size); left = rw e f; rest = kept }

-- the same bytes, and words from before another step
pub delivers-from : (bytes result ws₀ ws ws' reply reply' : List ℕ) (r : Result ℕ Refusal) → bytes ≡ result → drop 16384 ws ≡ drop 16384 ws₀
    → Delivers bytes ws ws' reply reply' r → Delivers result ws₀ ws' reply reply' r
delivers-from bytes result ws₀ ws ws' reply reply' r same kept d =
    let e : Delivers result ws ws' reply reply' r = subst (λ (b : List ℕ). Delivers b ws ws' reply reply' r) same d in
    record { said = e.said; left = e.left; rest = e.rest ∙ kept }

put_is : (reply bytes : List ℕ) → length bytes ≤ length reply → sets reply 0 bytes ≡ put reply bytes
unfolding put
put_is reply bytes h = sets-eq bytes reply 0 (omega arith) ∙ ap (λ (k : ℕ). bytes ++ drop k reply) (let e : 0 + length bytes ≡ length bytes = omega arith in e)

-- the netlist of the words, compacted
module _ (n k : ℕ) (ws₀ ws : List ℕ) (g : Keeps n k ws₀ ws) where
  abbrev result : List ℕ → List ℕ
  result w = encoded (compact (netlist_in n w))

  same-result : result ws ≡ result ws₀
  same-result = ap (λ (rs : List Record). encoded (compact (netlist_of rs))) g.records

  behind : drop 16384 ws ≡ drop 16384 ws₀
  behind = within-drop visited_at replaced_at 16384 ws₀ ws (omega arith) g.frame

  size : length (result ws₀) ≡ k * 16
  size = ap length (sym same-result) ∙ compact-length n ws g.marks ∙ ap (λ (m : ℕ). m * 16) (sym (all-is-count n k ws g.tallied))

  pub size_fits : k * 16 < 4294967296
  size_fits = let few : n ≤ 1024 = g.tallied.few in omega (arith, all-few n k ws g.tallied)

  pub compacts-none : (reply : List ℕ) → length reply < k * 16 → Delivers (result ws₀) ws₀ ws reply reply (Err ShortReply)
  compacts-none reply h = delivers-none (result ws₀) ws₀ ws reply (k * 16) size behind h

  pub compacts-all : (reply reply' : List ℕ) → k * 16 ≤ length reply → reply' ≡ sets reply 0 (result ws)
      → Delivers (result ws₀) ws₀ ws reply reply' (Ok (k * 16))
  compacts-all reply reply' h f =
      delivers-all (result ws₀) ws₀ ws reply (k * 16) size behind h reply'
      (f ∙ ap (sets reply 0) same-result ∙ put_is reply (result ws₀) (omega (arith, size)))
