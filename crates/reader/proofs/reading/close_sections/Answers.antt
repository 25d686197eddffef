use Rattle.reader.proofs.ReadingLaws.{section_none, section_closed}
use native.Mathlib.Omega.{arith}
use Prim.Native.Nat.{◌*◌, ◌≤◌}
use Rattle.std.specs.Prelude.{Some}
use mathlib.Core.Path.{refl, ◌≡◌, ap, ◌∙◌}
use lib.ListN.{length}
use Rattle.reader.specs.Sections.{walked_all}
use Rattle.reader.specs.SectionSteps.{walk_count}
use Rattle.reader.proofs.WalkLaws.{section_count}
use Rattle.reader.proofs.reading.close_sections.Goals as goal

pub returns-in_default : goal.returns-in_default
returns-in_default c =
    let a = c.args in
    (section_none a.c a.r.now a.s.now _ (rw c.in_default.is), omega arith)

pub last_entries-k-requires : goal.last_entries-k-requires
last_entries-k-requires c =
    let a = c.args in
    let s = a.s.now in
    let p = c.requires in
    let w = c.walk_section-w.ensures in
    let few : walk_count c.walk_section-w.result ≤ 6 * length a.r.now = omega (arith, w.few, rw c.in-Some.is at p.3.split_before) in
    let n : walk_count c.walk_section-w.result ≡ length (walked_all a.c a.r.now (Some c.in-Some.o) s.board.contract).entries = ap walk_count w.emits.answer ∙ section_count a.c a.r.now (Some c.in-Some.o) s.board.contract in
    (w.seated, omega (arith, p.0, w.emits.adds.start), omega (arith, p.0, p.1, few, n, w.emits.adds.count), omega (arith, p.0, few))

pub returns : goal.returns
returns c =
    let a = c.args in
    let p = c.requires in
    section_closed a.c a.r.now a.s.now _ c.in-Some.is _ _ _ _ _ _ _ _ c.walk_section-w.ensures c.last_entries-k.ensures c.board_closed-s.ensures refl (omega (arith, rw c.in-Some.is at p.3.split_before))
