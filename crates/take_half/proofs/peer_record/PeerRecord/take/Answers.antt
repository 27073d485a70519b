use Rattle.std.proofs.Common.{ℕ, ℤ, List, sym, ◌∙◌, ap, w32, SFits, rules}
use Rattle.std.proofs.lemmas.Int.{to_z-of_z}
use Rattle.std.proofs.lemmas.Result.{on_ok_weaker}
use Rattle.half_model.specs.declared.items.PeerOut.{PeerOut}
use Rattle.half_model.specs.declared.items.PeerOut.TheVariants as items
use Rattle.half_model.specs.PeerState.{peer_took}
use Rattle.take_half.proofs.peer_record.PeerRecord.take.Goals as goal

pub returns-in-Opened-clause-ok : goal.returns-in-Opened-clause-ok
returns-in-Opened-clause-ok c =
    let fits : SFits w32 c.in-Opened.rid = search rules in
    let key = to_z-of_z w32 c.in-Opened.rid fits in
    on_ok_weaker c.open_file.result
    (λ is. is ∙ ap (λ (rid : ℤ). peer_took (items.Opened rid c.in-Opened.size) c.args.self.now) key
    ∙ ap (λ (item : PeerOut). peer_took item c.args.self.now) (sym c.in-Opened.is))
    c.open_file.ensures.ok

pub returns-in-Grown-clause-ok : goal.returns-in-Grown-clause-ok
returns-in-Grown-clause-ok c =
    let fits : SFits w32 c.in-Grown.rid = search rules in
    let key = to_z-of_z w32 c.in-Grown.rid fits in
    on_ok_weaker c.grow_file.result
    (λ is. is ∙ ap (λ (rid : ℤ). peer_took (items.Grown rid c.in-Grown.size) c.args.self.now) key
    ∙ ap (λ (item : PeerOut). peer_took item c.args.self.now) (sym c.in-Grown.is))
    c.grow_file.ensures.ok

pub returns-in-Filled-clause-ok : goal.returns-in-Filled-clause-ok
returns-in-Filled-clause-ok c =
    let fits : SFits w32 c.in-Filled.rid = search rules in
    let key = to_z-of_z w32 c.in-Filled.rid fits in
    c.fill_file.ensures
    ∙ ap (λ (rid : ℤ). peer_took (items.Filled rid c.in-Filled.start c.as_slice.result.now) c.args.self.now) key
    ∙ ap (λ (bytes : List ℕ). peer_took (items.Filled c.in-Filled.rid c.in-Filled.start bytes) c.args.self.now) c.as_slice.ensures
    ∙ ap (λ (item : PeerOut). peer_took item c.args.self.now) (sym c.in-Filled.is)
