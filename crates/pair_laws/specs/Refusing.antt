-- For which causes a side may refuse a frame of the other side where both agree on the bytes of
-- their link; frames and their faults are this project's own.
use Rattle.std.specs.Prelude.{◌≡◌, Option, Some}
use Rattle.half_model.specs.PairLaws.{MayRefuse}
use Rattle.side_model.specs.declared.fault.ProxyFault.{ProxyFault}
use Rattle.side_model.specs.declared.fault.ProxyFault.TheVariants as faults
use Rattle.pair_laws.specs.Pairs.{OneSide, IsPair}

-- where a side stopped for a frame, the cause is that the messages and the rids of the frame don't
-- agree in number or kind, or that tracking refuses one of its messages
abbrev pub OnlyByMessages : Option ProxyFault → Type 0
OnlyByMessages (Some (faults.Frame connection place cause)) = MayRefuse (Some cause)
OnlyByMessages fault = Unit {0}

abbrev pub Unspoiled : Type 0
Unspoiled = (near far : OneSide) → IsPair near far → near.token ≡ far.token
    → OnlyByMessages near.fault × OnlyByMessages far.fault
