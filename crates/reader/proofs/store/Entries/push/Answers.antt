use native.Mathlib.Omega.{arith}
use Prim.Native.Nat.{◌+◌, ◌*◌, ◌≤◌, ◌<◌}
use mathlib.Core.Path.{refl}
use lib.ListN.{length}
use borrow.Author.Tests.{le-leb, lt-leb}
use Rattle.reader.specs.Store.{put, entry_words}
use Rattle.reader.proofs.store.Entries.push.Goals as goal
use Rattle.reader.proofs.store.Entries.push.Goals.{then-n-self, else-n-self}

pub returns : goal.returns
unfolding put entry_words
returns c =
    let l = c.args.self.now in
    elim c.if-n-self.branch [
      | then-n-self w ↦
          let h : 4 * l.count + 4 ≤ length l.words.now = omega (arith, w.if-n-self.true) in
          rw w.self-is
          (record {
            words = rw (le-leb _ _ h, ← w.moved_place-x.ensures, ← w.low_word.ensures, ← w.low_word-then-n-self.ensures, ← w.low_word-then-n-self-2.ensures, ← w.low_word-then-n-self-3.ensures) w.copy_in.ensures;
            count = refl;
            start = refl;
            lent = refl;
          })
      | else-n-self w ↦
          let h : length l.words.now < 4 * l.count + 4 = omega (arith, w.if-n-self.false) in
          rw w.self-is (record { words = rw (lt-leb _ _ h); count = refl; start = refl; lent = refl })
    ]
