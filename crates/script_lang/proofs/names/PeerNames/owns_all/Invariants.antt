use Rattle.std.proofs.Common.{◌≡◌, drop}
use Rattle.std.specs.List.{list_all}
use Rattle.std.specs.Option.{is_some}
use Rattle.script_lang.specs.Names.{thing_of}
use Rattle.script_lang.proofs.names.PeerNames.owns_all.Given as goal

-- the numbers so far are the peer's own
abbrev pub invariant-loop-number : goal.invariant-loop-number
invariant-loop-number l = list_all (λ number. is_some (thing_of l.self number)) l.numbers ≡ list_all (λ number. is_some (thing_of l.self number)) (drop l.number-index l.numbers)
