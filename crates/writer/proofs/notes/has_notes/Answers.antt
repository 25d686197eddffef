use Rattle.std.proofs.lemmas.Iterator.Consumers.{YieldsList-from_shown}
use Rattle.std.proofs.lemmas.Iterator.Search.{any_from_yields_List}
use borrow.Author.Rules.{rules}
use lib.Dec.{ltb}
use Rattle.writer.proofs.NotePlaces.{AnyNote, numbers_left, number_of_first, numbers_next}
use Rattle.writer.specs.Items.{NextEntry}
use mathlib.Core.Path.{◌∙◌}
use Rattle.writer.proofs.notes.has_notes.Goals as goal

pub returns : goal.returns
returns c =
    any_from_yields_List (λ n. ltb n 256) _ _ _ c.any.ensures.ran (YieldsList-from_shown NextEntry number_of_first numbers_left (λ s t h. rw h) (λ s x t h. numbers_next h) _) (λ x b q h. search rules)
    ∙ AnyNote c.args.items.now.text.now c.args.items.now.entries.now c.args.items.now.first c.args.items.now.count
