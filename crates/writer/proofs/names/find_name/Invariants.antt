use Rattle.std.proofs.Common.{◌≡◌, ◌+◌, ◌≤◌, length}
use Rattle.std.specs.Iterator.Adapters.{zip_first, zip_second}
use Rattle.std.specs.Slice.Iter.{iter_rest}
use Rattle.reader.specs.Words.{same}
use Rattle.writer.specs.Held.{place_bytes}
use Rattle.writer.specs.Items.{items_of, name_index}
use Rattle.writer.proofs.names.find_name.Given as goal

abbrev pub invariant-search : goal.invariant-search
invariant-search l =
    (l.items.first ≤ l.entry-iterator.first)
    × (l.entry-iterator.first + l.entry-iterator.count ≡ l.items.first + l.items.count)
    × (l.items.first + name_index l.name (items_of l.items) ≡ l.entry-iterator.first + name_index l.name (items_of l.entry-iterator))

abbrev pub invariant-loop-a : goal.invariant-loop-a
invariant-loop-a l =
    (same l.name (place_bytes l.entry.text.now l.entry.entries.now l.entry.first) ≡ same (iter_rest (zip_first l.a-iterator)) (iter_rest (zip_second l.a-iterator)))
    × (length (iter_rest (zip_first l.a-iterator)) ≡ length (iter_rest (zip_second l.a-iterator)))
