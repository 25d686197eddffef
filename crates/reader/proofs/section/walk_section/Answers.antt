use native.Mathlib.Omega.{arith}
use Rattle.std.specs.Prelude.{Some}
use Rattle.reader.specs.Sections.{walked}
use Rattle.reader.proofs.Counts.{cut_len}
use Rattle.reader.proofs.WalkLaws.{start_seated, start_none, span_walked, none_walked, walking, walk_on, walk_ended}
use Rattle.reader.proofs.section.walk_section.Goals as goal
use Rattle.reader.proofs.section.walk_section.Goals.{in-Some, in-None}

pub walk_piece-w-requires : goal.walk_piece-w-requires
walk_piece-w-requires c =
    let p = c.requires in
    let q = rw c.in-Some.is at p.3 in (
      start_seated c.no_walk.ensures,
      rw c.of.ensures (omega (arith, p.0, q, cut_len c.in-Some.d c.args.r.now)),
      omega (arith, p.1),
      omega (arith, start_none c.no_walk.ensures),
    )

pub loop-next-init : goal.loop-next-init
unfolding walked
loop-next-init c =
    let a = c.args in
    elim c.match-o.branch [
      | in-Some w ↦ rw (w.entries-is, w.w-is) (walking a.c a.r.now (Some a.o) a.trump a.entries.now _ _ _ w.no_walk.ensures c.requires.2
          (rw w.in-Some.is (span_walked a.c a.r.now (Some a.o) a.trump _ _ _ _ w.in-Some.d w.of.ensures w.walk_piece-w.ensures)))
      | in-None w ↦ rw (w.entries-is, w.w-is) (walking a.c a.r.now (Some a.o) a.trump a.entries.now _ _ _ w.no_walk-w.ensures c.requires.2
          (rw w.in-None.is (none_walked a.c a.r.now (Some a.o) a.trump _ _ (start_seated w.no_walk-w.ensures))))
    ]

pub walk_piece-w-requires-in-Some-next_piece : goal.walk_piece-w-requires-in-Some-next_piece
walk_piece-w-requires-in-Some-next_piece c =
    let p = c.requires in
    let v = c.loop-next.invariant in
    let q = rw c.in-Some-next_piece.is at c.next_piece.ensures in (
      v.seated,
      rw c.of-in-Some-next_piece.ensures (omega (arith, p.0, v.left.start, q.piece_inside, cut_len c.in-Some-next_piece.next.piece c.args.r.now)),
      omega (arith, p.0, p.1, p.3, v.counted, v.few, v.inside),
      omega (arith, p.0, p.3, v.few, v.inside),
    )

pub loop-next-preserved : goal.loop-next-preserved
loop-next-preserved c =
    let a = c.args in
    let v = c.loop-next in
    walk_on a.c a.r.now (Some a.o) a.trump _ v.w v.at _ _ _ _ v.invariant
    (span_walked a.c a.r.now (Some a.o) a.trump _ _ _ _ c.in-Some-next_piece.next.piece c.of-in-Some-next_piece.ensures c.walk_piece-w-in-Some-next_piece.ensures)
    (rw c.in-Some-next_piece.is at c.next_piece.ensures)

pub returns : goal.returns
returns c =
    let a = c.args in
    let v = c.loop-next in
    walk_ended a.c a.r.now (Some a.o) a.trump _ v.w v.at _ v.invariant (rw c.in_default.is at c.next_piece.ensures)
