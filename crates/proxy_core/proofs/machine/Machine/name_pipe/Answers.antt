-- An item is named by its rid where the peer holds that end.
use Rattle.std.proofs.Common.{◌≡◌, ℤ, false, None, sym, ap, ◌∙◌, rules, w32}
use Rattle.std.proofs.lemmas.Int.{to_z-of_z}
use Rattle.handle_table.specs.Table.{rid_of_number}
use Rattle.pipe_relay.specs.Pipes.{has_rid}
use Rattle.side_model.specs.State.{Now}
use Rattle.proxy_core.proofs.Naming.{bytes_unnamed, end_unnamed, shut_unnamed}
use Rattle.proxy_core.proofs.machine.Machine.name_pipe.Goals as goal

pub returns-else-holds : goal.returns-else-holds
returns-else-holds c =
    let s = c.args.self.now in
    let free : has_rid c.in-Bytes.pipe c.self.inside.taking.taking.held ≡ false = ap (λ (rid : ℤ). has_rid rid c.self.inside.taking.taking.held) (sym (to_z-of_z w32 c.in-Bytes.pipe (search rules))) ∙ sym c.holds.ensures ∙ c.if-holds.false in
    bytes_unnamed s.live.tables.handles s.live.taking.held c.args.item c.in-Bytes.pipe c.in-Bytes.bytes c.in-Bytes.is
    (ap (λ (s : Now). has_rid c.in-Bytes.pipe s.live.taking.held) (sym c.self.view_is) ∙ free)

pub returns-else-holds-2 : goal.returns-else-holds-2
returns-else-holds-2 c =
    let s = c.args.self.now in
    let free : has_rid c.in-End.pipe c.self.inside.taking.taking.held ≡ false = ap (λ (rid : ℤ). has_rid rid c.self.inside.taking.taking.held) (sym (to_z-of_z w32 c.in-End.pipe (search rules))) ∙ sym c.holds-in-End.ensures ∙ c.if-holds-2.false in
    end_unnamed s.live.tables.handles s.live.taking.held c.args.item c.in-End.pipe c.in-End.is
    (ap (λ (s : Now). has_rid c.in-End.pipe s.live.taking.held) (sym c.self.view_is) ∙ free)

pub returns-in-None : goal.returns-in-None
returns-in-None c =
    let s = c.args.self.now in
    let none : rid_of_number c.self.inside.handles c.in-Shut.pipe ≡ None = ap (rid_of_number c.self.inside.handles) (sym (to_z-of_z w32 c.in-Shut.pipe (search rules))) ∙ sym c.rid_of.ensures ∙ c.in-None.is in
    shut_unnamed s.live.tables.handles s.live.taking.held c.args.item c.in-Shut.pipe c.in-Shut.is
    (ap (λ (s : Now). rid_of_number s.live.tables.handles c.in-Shut.pipe) (sym c.self.view_is) ∙ none)
