use Rattle.std.proofs.lemmas.Iterator.Consumers.{YieldsList-from_shown}
use Rattle.std.proofs.lemmas.Iterator.Search.{any_from_yields_List}
use borrow.Author.Rules.{rules}
use mathlib.Core.Path.{◌∙◌}
use Rattle.writer.proofs.PageLaws.{has_any}
use Rattle.writer.proofs.RemarkLaws.{items_next}
use Rattle.writer.specs.Items.{NextEntry, item_of, items_of, is_remark}
use Rattle.writer.proofs.held.has_remarks.Goals as goal

pub returns : goal.returns
returns c =
    any_from_yields_List (λ i. is_remark i.kind) _ _ _ c.any.ensures.ran (YieldsList-from_shown NextEntry item_of items_of (λ s t h. rw h) (λ s x t h. items_next h) _) (λ x b q h. search rules) ∙ has_any (items_of c.args.items.now)
