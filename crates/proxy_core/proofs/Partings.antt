-- Rows of events one behind another, and which event is due by which phase.
use Rattle.std.proofs.Common.{◌≡◌, List, [], ◌∷◌, ◌++◌, refl, ap, subst, ◌∙◌, ◌⊎◌}
use Rattle.side_model.specs.declared.fault.ProxyFault.{ProxyFault}
use Rattle.side_model.specs.declared.fault.ProxyFault.TheVariants.{Memory}
use Rattle.side_model.specs.Calls.{Part, Halted}
use Rattle.side_model.specs.Due.{hear, group, treat, end, choose, work, next}
use Rattle.side_model.specs.Events.{Event, Next, Do, Halt, Rest, or_next}
use Rattle.side_model.specs.State.{Now}
use Rattle.side_model.specs.Steps.{step}
use Rattle.side_model.proofs.Parts.{SameProxy, same_part}
use Rattle.proxy_core.specs.Doing.{Goes, Settles, Fails}

-- ---- rows

pub part_append : (s t u : Now) (es fs : List Event) → Part s es t → Part t fs u → Part s (es ++ fs) u
part_append s t u [] fs p q = subst (λ (v : Now). Part v fs u) p q
part_append s t u (e ∷ es) fs p q = (p.0, part_append (step e s) t u es fs p.1 q)

pub goes_none : (s : Now) → Goes s s
goes_none s = ([], refl)

pub goes_one : (s : Now) (event : Event) → next s ≡ Do event → Goes s (step event s)
goes_one s event due = (event ∷ [], (due, refl))

pub goes_then : (s t u : Now) → Goes s t → Goes t u → Goes s u
goes_then s t u g h = (g.0 ++ h.0, part_append s t u g.0 h.0 g.1 h.1)

pub fails_then : (fault : ProxyFault) (s t u : Now) → Goes s t → Fails fault t u → Fails fault s u
fails_then fault s t u g f = (
  g.0 ++ f.0,
  record {
    last = f.1.last;
    part = part_append s t f.1.last g.0 f.0 g.1 f.1.part;
    due = f.1.due;
    halted = f.1.halted;
  },
)

pub fails_here : (fault : ProxyFault) (s t u : Now) → Goes s t → (next t ≡ Halt fault) ⊎ (fault ≡ Memory) → Halted fault t u → Fails fault s u
fails_here fault s t u g due halted = (g.0, record { last = t; part = g.1; due = due; halted = halted })

pub settles : (s t : Now) → Goes s t → next t ≡ Rest → Settles s t
settles s t g r = (g.0, (g.1, r))

pub goes_same : (s t : Now) → Goes s t → SameProxy s t
goes_same s t g = same_part s t g.0 g.1

-- ---- what is due first

past_rest : (a b : Next) → a ≡ Rest → or_next a b ≡ b
past_rest a b e = ap (λ (n : Next). or_next n b) e

first_do : (a b : Next) (event : Event) → a ≡ Do event → or_next a b ≡ Do event
first_do a b event e = ap (λ (n : Next). or_next n b) e

first_halt : (a b : Next) (fault : ProxyFault) → a ≡ Halt fault → or_next a b ≡ Halt fault
first_halt a b fault e = ap (λ (n : Next). or_next n b) e

pub hear_does : (s : Now) (event : Event) → hear s ≡ Do event → next s ≡ Do event
unfolding next
hear_does s event e = first_do (hear s) (work s) event e

pub hear_halts : (s : Now) (fault : ProxyFault) → hear s ≡ Halt fault → next s ≡ Halt fault
unfolding next
hear_halts s fault e = first_halt (hear s) (work s) fault e

pub group_does : (s : Now) (event : Event) → hear s ≡ Rest → group s ≡ Do event → next s ≡ Do event
unfolding next work
group_does s event a e = past_rest (hear s) (work s) a ∙ first_do (group s) (or_next (treat s) (or_next (end s) (choose s))) event e

treat_first : (s : Now) → hear s ≡ Rest → group s ≡ Rest → next s ≡ or_next (treat s) (or_next (end s) (choose s))
unfolding next work
treat_first s a b = past_rest (hear s) (work s) a ∙ past_rest (group s) (or_next (treat s) (or_next (end s) (choose s))) b

pub treat_does : (s : Now) (event : Event) → hear s ≡ Rest → group s ≡ Rest → treat s ≡ Do event → next s ≡ Do event
treat_does s event a b e = treat_first s a b ∙ first_do (treat s) (or_next (end s) (choose s)) event e

pub treat_halts : (s : Now) (fault : ProxyFault) → hear s ≡ Rest → group s ≡ Rest → treat s ≡ Halt fault → next s ≡ Halt fault
treat_halts s fault a b e = treat_first s a b ∙ first_halt (treat s) (or_next (end s) (choose s)) fault e

pub end_does : (s : Now) (event : Event) → hear s ≡ Rest → group s ≡ Rest → treat s ≡ Rest → end s ≡ Do event → next s ≡ Do event
end_does s event a b c e = treat_first s a b ∙ past_rest (treat s) (or_next (end s) (choose s)) c ∙ first_do (end s) (choose s) event e

pub choose_does : (s : Now) (event : Event) → hear s ≡ Rest → group s ≡ Rest → treat s ≡ Rest → end s ≡ Rest → choose s ≡ Do event → next s ≡ Do event
choose_does s event a b c d e = treat_first s a b ∙ past_rest (treat s) (or_next (end s) (choose s)) c ∙ past_rest (end s) (choose s) d ∙ e
