-- Line by line: what stands in the text before the record of a reader. Assumes nothing.
use Rattle.std.proofs.Common.{◌≡◌, refl, sym, ap, ◌∙◌, subst, true, false, Bor, List, ℕ, ◌+◌, ◌*◌, ◌/◌, ◌<◌, ◌≤◌, length, Some, arith, add-one}
use Rattle.cell.specs.declared.Record.{Record}
use Rattle.cell.specs.Records.{record_at}
use Rattle.reader.specs.declared.Reader.{Reader}
use Rattle.reader.specs.Read.{has_record, standing, following, Reads}
use Rattle.reader.proofs.Reading.{has-below, has-none}
use Rattle.lines.specs.Lines.{record_line, lines_to, lines_of}
use Rattle.text.specs.Text.{Puts}
use Rattle.text.proofs.Text.{puts_then, puts-length}

-- the lines of the records before the reader's place stand at the start of the text, and n is the place behind them
pub record Listing (bytes t : List ℕ) (r : Reader) (u : List ℕ) (n : ℕ) : Type 0 where
  pub same : r.bytes.now ≡ bytes
  pub upto : r.at ≤ length bytes / 16
  pub puts : Puts (80 * r.at) t u 0 (lines_to bytes r.at) n

module _ (bytes t : List ℕ) where
  lines_none : Puts (80 * 0) t t 0 (lines_to bytes 0) 0
  unfolding lines_to
  lines_none = record { stored = refl; place = refl; within = omega arith }

  pub listing_none : (b : Bor (List ℕ)) → b.now ≡ bytes → (r : Reader) → r ≡ standing b 0 → Listing bytes t r t 0
  listing_none b same r e = subst (λ (q : Reader). Listing bytes t q t 0) (sym e) record { same = same; upto = omega arith; puts = lines_none }

  module _ (r : Reader) (u : List ℕ) (n : ℕ) (s : Listing bytes t r u n) where
    pub listing-length : length u ≡ length t
    listing-length = puts-length (80 * r.at) t u 0 n (lines_to bytes r.at) s.puts

    pub more-below : true ≡ has_record r.bytes.now r.at → r.at < length bytes / 16
    more-below e = omega (arith, has-below r.bytes.now r.at (sym e), ap length s.same)

    pub none-above : false ≡ has_record r.bytes.now r.at → length bytes / 16 ≤ r.at
    none-above e = omega (arith, has-none r.bytes.now r.at (sym e), ap length s.same)

    -- one line more
    module _ (v : List ℕ) (x : Record) (m : ℕ) (h : r.at < length bytes / 16) (read : x ≡ record_at r.bytes.now r.at) (p : Puts 80 u v n (record_line r.at x) m) where
      lines_more : Puts (80 * (r.at + 1)) t v 0 (lines_to bytes (r.at + 1)) m
      unfolding lines_to
      lines_more =
          subst (λ (i : ℕ). Puts (80 * (r.at + 1)) t v 0 (lines_to bytes i) m) (sym (add-one r.at))
          (puts_then (80 * r.at) 80 (80 * (r.at + 1)) t u v 0 n m (lines_to bytes r.at) (record_line r.at (record_at bytes r.at)) (omega arith) s.puts
          (subst (λ (y : Record). Puts 80 u v n (record_line r.at y) m) (read ∙ ap (λ (b : List ℕ). record_at b r.at) s.same) p))

      pub listing-more : (r' : Reader) → r' ≡ following r → Listing bytes t r' v m
      listing-more r' e = subst (λ (q : Reader). Listing bytes t q v m) (sym e) record { same = s.same; upto = omega arith; puts = lines_more }

    -- what the reader gives, and its line put behind the others
    pub listing-read : (x : ℕ × Record) (r' : Reader) → Reads r (Some x) r' → (v : List ℕ) (m : ℕ) → Puts 80 u v n (record_line x.0 x.1) m → Listing bytes t r' v m
    listing-read x r' steps v m p =
        listing-more v (record_at r.bytes.now r.at) m (more-below (sym steps.0)) refl
        (subst (λ (y : ℕ × Record). Puts 80 u v n (record_line y.0 y.1) m) steps.1 p) r' steps.2

    module _ (short : length bytes ≤ 16384) where
      pub listing-room : 81920 ≤ length t → r.at < length bytes / 16 → n + 80 ≤ length u
      listing-room long h = omega (arith, short, s.puts.place, s.puts.within, listing-length)

      pub listing-all : length bytes / 16 ≤ r.at → Puts 81920 t u 0 (lines_of bytes) n
      unfolding lines_of
      listing-all h =
          let e : r.at ≡ length bytes / 16 = omega (arith, s.upto) in
          subst (λ (i : ℕ). Puts 81920 t u 0 (lines_to bytes i) n) e
          record { stored = s.puts.stored; place = s.puts.place; within = omega (arith, short, s.puts.within, s.upto) }
