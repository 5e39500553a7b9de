-- The outputs' levels, written slot by slot into the reply. Assumes nothing.
use mathlib.Core.Path.{◌≡◌, refl, sym, ap, ap₂, ◌∙◌}
use mathlib.Core.Bool.{Bool, true, false, cond}
use mathlib.Core.List.{List, [], ◌∷◌, ◌++◌, map, append-nil}
use Prim.Native.Nat.{ℕ, suc, ◌+◌, ◌<◌, ◌≤◌}
use native.Mathlib.Omega.{arith}
use native.Mathlib.Numerals.{add-one}
use mir.Val.{bool_byte}
use lib.ListN.{length, get_or, set, drop, length-append, length-map, length-set}
use lib.Seq.{drop-cons, set_at, append_snoc}
use Rattle.basics.specs.Lists.{tabulate, slots, those}
use Rattle.cell.specs.Records.{cell_of}
use Rattle.netlist.specs.Shape.{is_output}
use Rattle.netlist.specs.inner.Areas.{word_record, records_in}
use Rattle.netlist.proofs.Cells.{output-kind}
use Rattle.levels.specs.Fold.{of_kind}
use Rattle.levels.proofs.Slots.{kind-slots}
use Rattle.basics.proofs.Truth.{byte-is, at_most_one}
use Rattle.basics.proofs.Those.{slots-more, count-more, count-grows}
use Rattle.calls.specs.Calls.{put}
use Rattle.levels_call.specs.inner.Levels.{output_at, byte_at, put_level, written_levels}

-- a result with one byte more
put-more : (reply bytes : List ℕ) (b : ℕ) → length bytes < length reply → set (put reply bytes) (length bytes) b ≡ put reply (bytes ++ (b ∷ []))
unfolding put
put-more reply bytes b l =
    ap (λ (rest : List ℕ). set (bytes ++ rest) (length bytes) b) (drop-cons reply (length bytes) 0 l)
    ∙ set_at bytes (get_or reply (length bytes) 0) (drop (suc (length bytes)) reply) b (length bytes) refl
    ∙ sym (append_snoc bytes b (drop (suc (length bytes)) reply))
    ∙ ap (λ (k : ℕ). (bytes ++ (b ∷ [])) ++ drop k reply) (sym (length-append bytes (b ∷ []) ∙ add-one (length bytes)))

map_snoc : (f : ℕ → ℕ) (xs : List ℕ) (x : ℕ) → map f (xs ++ (x ∷ [])) ≡ map f xs ++ (f x ∷ [])
map_snoc f [] x = refl
map_snoc f (y ∷ xs) x = ap (λ (l : List ℕ). f y ∷ l) (map_snoc f xs x)

-- whether a slot holds an output, by its cell
pub output_is : (ws : List ℕ) (s : ℕ) → is_output (cell_of (word_record ws s)) ≡ output_at ws s
output_is ws s = output-kind (word_record ws s)

-- the bytes of the slots below s
module _ (n : ℕ) (ws : List ℕ) where
  unfoldable pub bytes_to : ℕ → List ℕ
  bytes_to s = map (byte_at n ws) (those (output_at ws) (slots s))

  bytes-length : (s : ℕ) → length (bytes_to s) ≡ length (those (output_at ws) (slots s))
  unfolding bytes_to
  bytes-length s = length-map (those (output_at ws) (slots s)) (byte_at n ws)

  bytes-all : bytes_to n ≡ written_levels n ws
  unfolding bytes_to written_levels
  bytes-all = ap (map (byte_at n ws)) (sym (kind-slots n ws 2))

  bytes-more : (s : ℕ) → output_at ws s ≡ true → bytes_to (s + 1) ≡ bytes_to s ++ (byte_at n ws s ∷ [])
  unfolding bytes_to
  bytes-more s e =
      ap (map (byte_at n ws)) (slots-more (output_at ws) s ∙ ap (λ (b : Bool). those (output_at ws) (slots s) ++ cond b (s ∷ []) []) e)
      ∙ map_snoc (byte_at n ws) (those (output_at ws) (slots s)) s

  bytes_same : (s : ℕ) → output_at ws s ≡ false → bytes_to (s + 1) ≡ bytes_to s
  unfolding bytes_to
  bytes_same s e =
      ap (map (byte_at n ws)) (slots-more (output_at ws) s ∙ ap (λ (b : Bool). those (output_at ws) (slots s) ++ cond b (s ∷ []) []) e ∙ append-nil (those (output_at ws) (slots s)))

-- the loop that writes
pub record Writing (n : ℕ) (ws reply₀ reply : List ℕ) (s k : ℕ) : Type 0 where
  pub upto : s ≤ n
  pub small : k ≤ s
  pub room : length (of_kind 2 (records_in n ws)) ≤ length reply₀
  pub counted : k ≡ length (those (output_at ws) (slots s))
  pub written : reply ≡ put reply₀ (bytes_to n ws s)
  pub same : length reply ≡ length reply₀

pub writing-none : (n : ℕ) (ws reply : List ℕ) → length (of_kind 2 (records_in n ws)) ≤ length reply → Writing n ws reply reply 0 0
unfolding tabulate those put bytes_to
writing-none n ws reply h = record { upto = omega arith; small = omega arith; room = h; counted = refl; written = refl; same = refl }

module _ (n : ℕ) (ws reply₀ reply : List ℕ) (s k : ℕ) (g : Writing n ws reply₀ reply s k) where
  module _ (l : s < n) (reply' : List ℕ) (e : reply' ≡ put_level n ws s reply k) where
    -- there is room for every output's byte
    fits : output_at ws s ≡ true → length (bytes_to n ws s) < length reply₀
    fits q =
        let r : length (of_kind 2 (records_in n ws)) ≤ length reply₀ = g.room in
        let m : length (of_kind 2 (records_in n ws)) ≡ length (those (output_at ws) (slots n)) = ap length (kind-slots n ws 2) in
        let c : length (those (output_at ws) (slots (s + 1))) ≡ length (those (output_at ws) (slots s)) + 1 =
        count-more (output_at ws) s ∙ ap (λ (b : Bool). length (those (output_at ws) (slots s)) + cond b 1 0) q in
        omega (arith, bytes-length n ws s, count-grows (output_at ws) (s + 1) n (omega arith))

    level-added : (b : Bool) → output_at ws s ≡ b → reply' ≡ put reply₀ (bytes_to n ws (s + 1))
    level-added true q =
        e ∙ ap (λ (b : Bool). cond b (set reply k (byte_at n ws s)) reply) q
        ∙ ap₂ (λ (l : List ℕ) (i : ℕ). set l i (byte_at n ws s)) g.written (g.counted ∙ sym (bytes-length n ws s))
        ∙ put-more reply₀ (bytes_to n ws s) (byte_at n ws s) (fits q) ∙ ap (put reply₀) (sym (bytes-more n ws s q))
    level-added false q =
        e ∙ ap (λ (b : Bool). cond b (set reply k (byte_at n ws s)) reply) q ∙ g.written ∙ ap (put reply₀) (sym (bytes_same n ws s q))

    as_long : (b : Bool) → length (cond b (set reply k (byte_at n ws s)) reply) ≡ length reply
    as_long true = length-set reply k (byte_at n ws s)
    as_long false = refl

    pub writing_more : (b : Bool) → b ≡ output_at ws s → (j : ℕ) → j ≡ bool_byte b → Writing n ws reply₀ reply' (s + 1) (k + j)
    writing_more b y j q =
        let one : j ≤ 1 = omega (arith, q, byte-is b, at_most_one b) in
        let z : k ≤ s = g.small in
        record {
          upto = omega arith;
          small = omega arith;
          room = g.room;
          counted = ap₂ ◌+◌ g.counted (q ∙ byte-is b ∙ ap (λ (x : Bool). cond x 1 0) y) ∙ sym (count-more (output_at ws) s);
          written = level-added (output_at ws s) refl;
          same = ap length e ∙ as_long (output_at ws s) ∙ g.same;
        }

  pub writing-all : n ≤ s → reply ≡ put reply₀ (written_levels n ws)
  writing-all h =
      g.written ∙ ap (λ (m : ℕ). put reply₀ (bytes_to n ws m)) (let u : s ≤ n = g.upto in omega arith) ∙ ap (put reply₀) (bytes-all n ws)
