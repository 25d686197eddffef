use Prim.Native.Nat.{◌+◌, ◌-◌}
use mathlib.Core.Path.{◌≡◌}
use native.Mathlib.Omega.{arith}
use lib.ListN.{take}
use Rattle.planning.specs.Slips.{card_from}
use Rattle.planning.specs.Searches.{search_numbers, old_words, near_words, twin_words}
use Rattle.planning.proofs.StateLaws.{state_blank}
use Rattle.planning.proofs.searches.search_numbers.Goals as goal

pub returns-in_default : goal.returns-in_default
unfolding search_numbers old_words near_words twin_words
returns-in_default c =
    let a = c.args in
    rw (c.number.ensures, c.source.ensures, c.state_of-s.ensures.0, ← state_blank a.olds.now a.news.now (take a.k a.news.now) (card_from a.news.now a.k) c.in_default.ensures)

pub returns : goal.returns
unfolding search_numbers old_words near_words twin_words
returns c =
    let z : c.args.k + 1 - 1 ≡ c.args.k = omega arith in
    rw (z, ← c.state_of-s.ensures.0, ← c.in-Some.ensures.1, ← c.old_sought.ensures, ← c.near_sought.ensures, ← c.twin_sought.ensures, c.number-2.ensures, c.source-2.ensures, c.words_if.ensures, c.words_if-2.ensures, c.words_if-3.ensures)
