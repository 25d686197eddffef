use Rattle.writer.proofs.BoardLaws.{deal_at}
use Rattle.writer.proofs.page.before_deal.Goals as goal

pub returns : goal.returns
returns c =
    let is = c.args.items.now in
    rw c.unwrap_or.ensures (deal_at is.text.now is.entries.now is.first is.count _ c.find_name.ensures)
