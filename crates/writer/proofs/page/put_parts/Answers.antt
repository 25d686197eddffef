use Rattle.tables.proofs.PutsLaws.{puts_all, puts_first, puts_next, puts_same}
use Rattle.writer.proofs.PageLaws.{parts_none, parts_step}
use Rattle.writer.proofs.page.put_parts.Goals as goal

pub loop-b-preserved : goal.loop-b-preserved
loop-b-preserved c =
    let e = c.args.edition.now in
    puts_next _ _ (puts_same (parts_step c.args.c e.text.now e.cards.now e.entries.now c.loop-b.b e.boards c.loop-b-test.true) c.loop-b.invariant) c.put_next.ensures
