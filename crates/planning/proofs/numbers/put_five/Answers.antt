use Prim.Native.Nat.{ℕ, ◌+◌, ◌*◌, ◌≤◌, ◌<◌}
use mathlib.Core.Path.{◌≡◌, refl, sym, ◌∙◌}
use mathlib.Core.List.{List}
use native.Mathlib.Omega.{arith}
use lib.ListN.{length}
use lib.Seq.{sets, sets-eq, take_all}
use borrow.Author.Tests.{le-leb, lt-leb}
use borrow.Rule.Slice.PartMut.{put_mid}
use Rattle.std.proofs.lemmas.Slice.{put_mid-paste}
use Rattle.reader.specs.Store.{put}
use Rattle.planning.proofs.numbers.put_five.Goals as goal

-- What a part of a list is replaced by is stored from its start on.
mid_sets : (l vs : List ℕ) (at k : ℕ) {ys : List ℕ} → ys ≡ vs → length vs ≡ k → at + length vs ≤ length l → put_mid at k l ys ≡ sets l at vs
mid_sets l vs at k e n h = put_mid-paste at k l _ vs (length vs) e n refl ∙ rw (take_all (length vs) vs (omega arith)) (sym (sets-eq vs l at h))

pub returns-then-n-numbers : goal.returns-then-n-numbers
unfolding put
returns-then-n-numbers c =
    let h : 5 * c.args.n + 5 ≤ length c.args.numbers.now = omega (arith, c.if-n-numbers.true) in
    rw (le-leb _ _ h) (mid_sets c.args.numbers.now c.args.five (5 * c.args.n) _ c.copy_from_slice.ensures.after (omega arith) (omega arith))

pub returns-else-n-numbers : goal.returns-else-n-numbers
unfolding put
returns-else-n-numbers c =
    let h : length c.args.numbers.now < 5 * c.args.n + 5 = omega (arith, c.if-n-numbers.false) in
    rw (lt-leb _ _ h)
