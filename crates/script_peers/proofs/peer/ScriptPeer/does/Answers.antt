use Rattle.std.proofs.Common.{ℕ, ℤ, List, ◌∷◌, [], FitsSigned, rules, ap, sym, ◌∙◌, w32}
use Rattle.std.proofs.lemmas.Int.{to_z-of_z}
use Rattle.std.proofs.lemmas.Result.{on_ok_weaker}
use Rattle.pool_words.specs.Views.{no_pool}
use Rattle.half_model.specs.declared.items.PeerIn.TheVariants as items
use Rattle.script_lang.specs.declared.steps.StepKind.{StepKind}
use Rattle.script_peers.specs.Owning.{filled}
use Rattle.script_peers.specs.Peers.{ScriptedPeer, with_items, did}
use Rattle.script_peers.specs.Putting.{handle_items, pipe_piece, with_changed, with_pipe}
use Rattle.script_peers.specs.Wires.{piece_of}
use Rattle.wp_outside.specs.declared.pipe_items.PipeItem.TheVariants as pipe_items
use Rattle.script_peers.proofs.PeerLemmas.{wire_kept, idle}
use Rattle.script_peers.proofs.peer.ScriptPeer.does.Goals as goal

pub returns-in-Hex : goal.returns-in-Hex
returns-in-Hex c =
    let now = c.args.self.now in
    on_ok_weaker c.put_bytes.result
    (λ is. (
      no_pool,
      is
          ∙ ap (λ (bytes : List ℕ). with_items (piece_of bytes) now) c.as_slice.ensures
          ∙ ap (λ (what : StepKind). did no_pool what now) (sym c.in-Hex.is),
    ))
    c.put_bytes.ensures

pub returns-in-Say : goal.returns-in-Say
returns-in-Say c =
    let now = c.args.self.now in
    on_ok_weaker c.say.result
    (λ is. (
      no_pool,
      is
          ∙ ap (λ (what : StepKind). did no_pool what now) (sym c.in-Say.is),
    ))
    c.say.ensures

pub returns-in-Fill : goal.returns-in-Fill
returns-in-Fill c =
    let now = c.args.self.now in
    let number : ℤ = c.in-Fill.number in
    let fits : FitsSigned w32 number = search rules in
    on_ok_weaker c.fill_file.result
    (λ is. (
      no_pool,
      is
          ∙ ap (λ (n : ℤ). let p : ScriptedPeer = record now { own = with_changed n (filled c.in-Fill.first c.in-Fill.count c.in-Fill.value) now.own } in p) (to_z-of_z w32 number fits)
          ∙ wire_kept now (with_changed number (filled c.in-Fill.first c.in-Fill.count c.in-Fill.value) now.own)
          ∙ ap (λ (what : StepKind). did no_pool what now) (sym c.in-Fill.is),
    ))
    c.fill_file.ensures

pub returns-in-Pipe : goal.returns-in-Pipe
returns-in-Pipe c =
    let now = c.args.self.now in
    let number : ℤ = c.in-Pipe.number in
    let fits : FitsSigned w32 number = search rules in
    on_ok_weaker c.make_pipe.result
    (λ is. (
      no_pool,
      is
          ∙ ap (λ (n : ℤ). let p : ScriptedPeer = record now { own = with_pipe n now.own } in p) (to_z-of_z w32 number fits)
          ∙ wire_kept now (with_pipe number now.own)
          ∙ ap (λ (what : StepKind). did no_pool what now) (sym c.in-Pipe.is),
    ))
    c.make_pipe.ensures

pub returns-in-Give : goal.returns-in-Give
returns-in-Give c =
    let now = c.args.self.now in
    let number : ℤ = c.in-Give.number in
    let fits : FitsSigned w32 number = search rules in
    on_ok_weaker c.put_handle.result
    (λ is. (
      no_pool,
      is
          ∙ ap (λ (n : ℤ). with_items (handle_items now.own (n ∷ [])) now) (to_z-of_z w32 number fits)
          ∙ ap (λ (what : StepKind). did no_pool what now) (sym c.in-Give.is),
    ))
    c.put_handle.ensures

pub returns-in-Put : goal.returns-in-Put
returns-in-Put c =
    let now = c.args.self.now in
    let number : ℤ = c.in-Put.pipe in
    let fits : FitsSigned w32 number = search rules in
    on_ok_weaker c.write_pipe.result
    (λ is. (
      no_pool,
      is
          ∙ ap (λ (n : ℤ). with_items (pipe_piece n c.as_slice-in-Put.result.now) now) (to_z-of_z w32 number fits)
          ∙ ap (λ (bytes : List ℕ). with_items (pipe_piece number bytes) now) c.as_slice-in-Put.ensures
          ∙ ap (λ (what : StepKind). did no_pool what now) (sym c.in-Put.is),
    ))
    c.write_pipe.ensures

pub returns-in-End : goal.returns-in-End
returns-in-End c =
    let now = c.args.self.now in
    let number : ℤ = c.in-End.pipe in
    let fits : FitsSigned w32 number = search rules in
    on_ok_weaker c.put_pipe.result
    (λ is. (
      no_pool,
      is
          ∙ ap (λ (n : ℤ). with_items (items.Pipe (pipe_items.End n) ∷ []) now) (to_z-of_z w32 number fits)
          ∙ ap (λ (what : StepKind). did no_pool what now) (sym c.in-End.is),
    ))
    c.put_pipe.ensures

pub returns-in-Shut : goal.returns-in-Shut
returns-in-Shut c =
    let now = c.args.self.now in
    let number : ℤ = c.in-Shut.number in
    let fits : FitsSigned w32 number = search rules in
    on_ok_weaker c.put_pipe-in-Shut.result
    (λ is. (
      no_pool,
      is
          ∙ ap (λ (n : ℤ). with_items (items.Pipe (pipe_items.Shut n) ∷ []) now) (to_z-of_z w32 number fits)
          ∙ ap (λ (what : StepKind). did no_pool what now) (sym c.in-Shut.is),
    ))
    c.put_pipe-in-Shut.ensures

pub returns-in_default : goal.returns-in_default
returns-in_default c =
    let d = c.in_default in (
      no_pool,
      idle c.args.what.now c.args.self.now d.not-Hex d.not-Say d.not-File d.not-Grow d.not-Fill d.not-Pipe d.not-Give d.not-Put d.not-End d.not-Shut,
    )
