-- Where bytes of the front are written, at most the next one is chosen then.
use Rattle.std.proofs.Common.{◌≡◌, ◌∙◌, None, sym, ap}
use Rattle.side_model.specs.State.{Now}
use Rattle.proxy_core.proofs.Keepings.{none_of, stood}
use Rattle.proxy_core.proofs.Sendings.{lent_front, MayChoose, sent_may, Sends, sends}
use Rattle.proxy_core.proofs.machine.Machine.link_sent.Goals as goal

may : (c : goal.After-choose-arg-1) → MayChoose c.write.new.self
may c =
    let s = c.args.self.now in
    let none : s.fault ≡ None = ap (λ (s : Now). s.fault) (sym c.self.view_is) ∙ none_of c.self.inside.fault (sym c.is_some.ensures ∙ c.if-is_some.false) in
    sent_may c.args.count s c.write.new.self none (stood s.fault s none c.requires.stands) (lent_front c.args.count s none c.requires.lent) c.write.ensures

pub choose-requires-clause-running : goal.choose-requires-clause-running
choose-requires-clause-running c = (may c).running

pub choose-requires-clause-sound : goal.choose-requires-clause-sound
choose-requires-clause-sound c = (may c).sound

sent : (c : goal.After-choose) → Sends c.args.count c.args.self.now c.choose.new.self
sent c =
    let s = c.args.self.now in
    let none : s.fault ≡ None = ap (λ (s : Now). s.fault) (sym c.self.view_is) ∙ none_of c.self.inside.fault (sym c.is_some.ensures ∙ c.if-is_some.false) in
    sends c.args.count c.choose.result s c.write.new.self c.choose.new.self none (stood s.fault s none c.requires.stands) (lent_front c.args.count s none c.requires.lent) c.write.ensures c.choose.ensures

pub returns-clause-exact : goal.returns-clause-exact
returns-clause-exact c = (sent c).settles

pub returns-clause-stands : goal.returns-clause-stands
returns-clause-stands c = (sent c).stands
