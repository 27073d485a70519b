use Rattle.std.proofs.Common.{None, ap, ◌∙◌, sym}
use Rattle.std.specs.List.{list_all}
use Rattle.std.specs.Option.{is_some}
use Rattle.script_lang.specs.Names.{thing_of, fault_of, unless}
use Rattle.script_lang.specs.declared.causes.ScriptCause.TheVariants.{Name}
use Rattle.script_lang.proofs.names.PeerNames.fault.Goals as goal

pub returns-in-Say : goal.returns-in-Say
returns-in-Say c =
    let owned = c.args.self.now in
    c.unless-in-Say.ensures
    ∙ ap (λ holds. unless holds Name None) (c.owns_all.ensures ∙ ap (list_all (λ number. is_some (thing_of owned number))) c.as_slice.ensures)
    ∙ sym (ap (fault_of owned) c.in-Say.is)
