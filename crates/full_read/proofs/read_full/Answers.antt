use Rattle.std.proofs.Common.{rules, ℕ, List, ◌++◌, ◌+◌, ◌≤◌, ◌≡◌, length, take, sym, ap, ◌∙◌, subst}
use Rattle.std.proofs.lemmas.List.{length-take-le, take-append-le}
use Rattle.std.proofs.Math.Seq.{take-append-add}
use Rattle.std.specs.Io.KnownBytes.{Consumes}
use Rattle.std.proofs.KnownBytes.{Consumes-trans}
use borrow.Rule.Slice.PartMut.{put_mid, post_of}
use Rattle.full_read.proofs.read_full.Goals as goal

-- what a buffer begins with after a read into it behind its first bytes
take-put_mid_more : (at room n : ℕ) (old read : List ℕ) → at ≤ length old → n ≤ length read
    → take at old ++ take n read ≡ take (at + n) (put_mid at room old read)
take-put_mid_more at room n old read within fits =
    let front = take at old in
    let behind = read ++ post_of at room old in
    let len = length-take-le at old within in
    sym
    (ap (λ m. take (m + n) (front ++ behind)) (sym len)
    ∙ take-append-add front behind n
    ∙ ap (λ l. front ++ l) (take-append-le n read (post_of at room old) fits))

pub loop-done-preserved : goal.loop-done-preserved
loop-done-preserved g c = record {
  same_length = search rules;
  bound = search rules;
  bytes =
      subst (Consumes _ _)
      (take-put_mid_more c.loop-done.done _ c.in_ok-n.n c.loop-done.buffer c.read.new.buf c.loop-done.invariant.bound c.in_ok-n.ensures.bound.0)
      (Consumes-trans _ _ _ _ _ c.loop-done.invariant.bytes c.in_ok-n.ensures.bytes.0);
}
