use Rattle.writer.specs.Pages.{built_in_header}
use Rattle.writer.proofs.page.put_header.Goals as goal

pub returns : goal.returns
unfolding built_in_header
returns c =
    c.put_text.ensures
