-- An ACK that is not refused makes the ring let go, and changes nothing else.
use Rattle.std.proofs.Common.{◌≡◌, ◌∙◌, None, subst, sym, ap}
use Rattle.transfer_frames.specs.declared.frame.Frame.TheVariants.{Ack}
use Rattle.pair_model.specs.RingState.{RingState, ring_ack}
use Rattle.pair_model.specs.Tally.{Tally}
use Rattle.side_model.specs.Sound.{Sound}
use Rattle.side_model.specs.State.{Now}
use Rattle.proxy_core.specs.Hearing.{cause_of, heard_behind, IsUp}
use Rattle.proxy_core.specs.Inside.{now_of}
use Rattle.proxy_core.proofs.Hearings.{ack_heard}
use Rattle.proxy_core.proofs.machine.Machine.hear_ack.Goals as goal

pub returns-in-Ok : goal.returns-in-Ok
returns-in-Ok c =
    let it = c.self.inside in
    let n = c.args.count in
    let up : IsUp c.args.at.connection (now_of it).live.here = subst (λ (s : Now). IsUp c.args.at.connection s.live.here) (sym c.self.view_is) c.requires.up in
    let sound : Sound (now_of it) = subst (λ (s : Now). Sound s) (sym c.self.view_is) c.requires.sound in
    let after : now_of (record it { ring = c.ack.new.self; counts = c.on_ack.new.self }) ≡ now_of (record it { ring = ring_ack n it.ring }) =
    ap (λ (r : RingState). now_of (record it { ring = r; counts = c.on_ack.new.self })) c.ack.ensures ∙ ap (λ (t : Tally). now_of (record it { ring = ring_ack n it.ring; counts = t })) c.on_ack.ensures.same in
    let heard = ack_heard it n c.args.at.connection up sound c.self.invariant.counted c.in-Ok.ensures.exact in
    subst (λ (s : Now). (cause_of s (Ack n) ≡ None) × (now_of (record it { ring = c.ack.new.self; counts = c.on_ack.new.self }) ≡ heard_behind (Ack n) s)) c.self.view_is (heard.0, after ∙ heard.1)
