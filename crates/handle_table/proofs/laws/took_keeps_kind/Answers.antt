use Rattle.std.proofs.lemmas.Cmp.{int_cmp_total}
use Rattle.plain_lists.proofs.EntryLemmas.{lookup-insert_entry}
use Rattle.handle_table.proofs.laws.took_keeps_kind.Goals as goal

pub returns : goal.returns
returns c = λ table rid other kind. lookup-insert_entry int_cmp_total table.kept rid other kind
