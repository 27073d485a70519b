-- With agreement, the frame that a side comes to on the connection that is up is not refused.
use Rattle.std.proofs.Common.{◌≡◌, ℕ, List, ◌++◌, Option, None, length, refl, sym, ap, subst, ◌∙◌}
use Rattle.transfer_frames.specs.Grammar.{role}
use Rattle.pair_model.specs.Lines.{SideRecord, read_on, written_on}
use Rattle.pair_model.specs.Rows.{spellings, counted, reply, Reads}
use Rattle.pair_model.specs.LinkFaults.{link_fault, judge_of}
use Rattle.pair_model.specs.Steps.{Here, Stands, side_stopped}
use Rattle.pair_model.specs.StepLaws.{NextIsDue, NoFaultComes}
use Rattle.pair_model.proofs.NoRefusal.{Next, refuses_none, grammar_kept}
use Rattle.pair_model.proofs.Wholes.{wholly}
use Rattle.pair_model.proofs.Seeing.{all_seen, seen_here, read_here, read_later, written_here, sees_stopped, wire_stopped}

-- the bytes read, behind the frames seen on all connections
pub bytes_here : (token : List ℕ) (side : SideRecord) (here : Here) (st : Stands token side here) → read_on here.connection side.lines ≡ spellings (all_seen token side here st here.connection) ++ here.unread
bytes_here token side here st =
    read_here token side here st here.connection refl ∙ st.here_is.read_is ∙ ap (λ fs. spellings fs ++ here.unread) (sym (seen_here token side here st))

pub wrote_wholly : (token : List ℕ) (side : SideRecord) (here : Here) (st : Stands token side here) → Reads None (written_on here.connection side.lines) st.here_is.whole
wrote_wholly token side here st = subst (λ (bytes : List ℕ). Reads None bytes st.here_is.whole) (sym (written_here token side here st here.connection refl)) (wholly st.here_is)

pub answer_here : (token : List ℕ) (side : SideRecord) (here : Here) (st : Stands token side here) → reply (all_seen token side here st here.connection) ≡ here.answer
answer_here token side here st = ap reply (seen_here token side here st) ∙ st.here_is.answered

pub next_due : NextIsDue
next_due token side other here frame more st wire agrees counts f e =
    let next : Next (side_stopped None here side) (all_seen token side here st here.connection) here.connection frame = record {
      is_frame = f;
      more = more;
      bytes = bytes_here token side here st ∙ ap (λ bytes. spellings (all_seen token side here st here.connection) ++ bytes) e;
      last = read_later token side here st;
    } in
    let passes : link_fault (judge_of token side here.connection (length (counted st.here_is.whole))) (reply (all_seen token side here st here.connection)) (role frame) ≡ None =
    refuses_none (wire_stopped token side here st None) wire (record { up = agrees.down; down = agrees.up }) counts (sees_stopped token side here st None) here.connection frame st.here_is.whole next (wrote_wholly token side here st) in
    subst (λ (n : ℕ). link_fault (judge_of token side here.connection n) here.answer (role frame) ≡ None) (sym st.here_is.wholes)
    (subst (λ (answer : Option ℕ). link_fault (judge_of token side here.connection (length (counted st.here_is.whole))) answer (role frame) ≡ None) (answer_here token side here st) passes)

pub no_fault_comes : NoFaultComes
no_fault_comes token side other here cause st wire agrees k =
    grammar_kept wire (record { up = agrees.down; down = agrees.up }) (sees_stopped token side here st None) here.connection here.unread (bytes_here token side here st) cause k
