-- Rows of steps at the pipes of a side, and what they make, hear and give.
use Rattle.std.proofs.Common.{◌≡◌, List, [], ◌∷◌, ◌++◌, refl, sym, ap, ◌∙◌, subst, append_assoc}
use Rattle.std.proofs.lemmas.Grind.{flat_map-append}
use Rattle.std.proofs.lemmas.List.Elements.{filter-append, filter_map-append}
use Rattle.wp_outside.specs.declared.pipe_items.PipeItem.{PipeItem}
use Rattle.transfer_frames.specs.declared.frame.Frame.{Frame}
use Rattle.half_model.specs.declared.items.PeerOut.{PeerOut}
use Rattle.pair_model.specs.Rows.{counted, is_counted}
use Rattle.pipe_relay.specs.Pipes.{PipesState, is_of_pipe}
use Rattle.pipe_relay.specs.Rows as rows
use Rattle.pipe_relay.specs.Rows.{PipeStep, OpensOwn, OpensOther, Puts, Hears, Happens, after_steps}
use Rattle.transfer_frames.specs.Grammar.{role}
use Rattle.pair_laws.specs.PipeRuns.{of_pipes, pipe_item_of, pipe_items_in}

-- they make, hear and give what a side did, and leave its pipes
pub record Runs (pipes after : PipesState) (steps : List PipeStep) (made heard : List Frame) (given : List PeerOut) : Type 0 where
  pub happens : Happens pipes steps
  pub made_is : rows.made_in pipes steps ≡ of_pipes made
  pub heard_is : rows.heard_in steps ≡ of_pipes (counted heard)
  pub gives : rows.given_in pipes steps ≡ pipe_items_in given
  pub leaves : after_steps pipes steps ≡ after

-- ---- rows of steps

happens_both : (pipes : PipesState) (xs ys : List PipeStep) → Happens pipes xs → Happens (after_steps pipes xs) ys → Happens pipes (xs ++ ys)
happens_both pipes [] ys h k = k
happens_both pipes (x ∷ xs) ys h k = (h.0, happens_both (rows.after_step pipes x) xs ys h.1 k)

pub after_both : (pipes : PipesState) (xs ys : List PipeStep) → after_steps pipes (xs ++ ys) ≡ after_steps (after_steps pipes xs) ys
after_both pipes [] ys = refl
after_both pipes (x ∷ xs) ys = after_both (rows.after_step pipes x) xs ys

made_both : (pipes : PipesState) (xs ys : List PipeStep) → rows.made_in pipes (xs ++ ys) ≡ rows.made_in pipes xs ++ rows.made_in (after_steps pipes xs) ys
made_both pipes [] ys = refl
made_both pipes (x ∷ xs) ys = ap (λ (fs : List Frame). rows.made_at pipes x ++ fs) (made_both (rows.after_step pipes x) xs ys) ∙ sym (append_assoc (rows.made_at pipes x) (rows.made_in (rows.after_step pipes x) xs) _)

given_both : (pipes : PipesState) (xs ys : List PipeStep) → rows.given_in pipes (xs ++ ys) ≡ rows.given_in pipes xs ++ rows.given_in (after_steps pipes xs) ys
given_both pipes [] ys = refl
given_both pipes (x ∷ xs) ys = ap (λ (is : List PipeItem). rows.given_at pipes x ++ is) (given_both (rows.after_step pipes x) xs ys) ∙ sym (append_assoc (rows.given_at pipes x) (rows.given_in (rows.after_step pipes x) xs) _)

pub pipe_items-append : (xs ys : List PeerOut) → pipe_items_in (xs ++ ys) ≡ pipe_items_in xs ++ pipe_items_in ys
pipe_items-append xs ys = filter_map-append pipe_item_of xs ys

of_pipes-append : (xs ys : List Frame) → of_pipes (xs ++ ys) ≡ of_pipes xs ++ of_pipes ys
of_pipes-append xs ys = filter-append is_of_pipe xs ys

counted-append : (xs ys : List Frame) → counted (xs ++ ys) ≡ counted xs ++ counted ys
counted-append xs ys = filter-append (λ frame. is_counted (role frame)) xs ys

pub runs_both : {pipes between after : PipesState} {xs ys : List PipeStep} {made heard more next : List Frame} {given items : List PeerOut}
    → Runs pipes between xs made heard given → Runs between after ys more next items → Runs pipes after (xs ++ ys) (made ++ more) (heard ++ next) (given ++ items)
runs_both {pipes} {between} {after} {xs} {ys} {made} {heard} {more} {next} {given} {items} a b = record {
  happens = happens_both pipes xs ys a.happens (subst (λ (p : PipesState). Happens p ys) (sym a.leaves) b.happens);
  made_is = made_both pipes xs ys
      ∙ ap (λ (p : PipesState). rows.made_in pipes xs ++ rows.made_in p ys) a.leaves
      ∙ ap (λ (fs : List Frame). fs ++ rows.made_in between ys) a.made_is
      ∙ ap (λ (fs : List Frame). of_pipes made ++ fs) b.made_is
      ∙ sym (of_pipes-append made more);
  heard_is = flat_map-append rows.heard_at xs ys
      ∙ ap (λ (fs : List Frame). fs ++ rows.heard_in ys) a.heard_is
      ∙ ap (λ (fs : List Frame). of_pipes (counted heard) ++ fs) b.heard_is
      ∙ sym (of_pipes-append (counted heard) (counted next))
      ∙ ap of_pipes (sym (counted-append heard next));
  gives = given_both pipes xs ys
      ∙ ap (λ (p : PipesState). rows.given_in pipes xs ++ rows.given_in p ys) a.leaves
      ∙ ap (λ (is : List PipeItem). is ++ rows.given_in between ys) a.gives
      ∙ ap (λ (is : List PipeItem). pipe_items_in given ++ is) b.gives
      ∙ sym (pipe_items-append given items);
  leaves = after_both pipes xs ys ∙ ap (λ (p : PipesState). after_steps p ys) a.leaves ∙ b.leaves;
}

pub runs_none : (pipes : PipesState) → Runs pipes pipes [] [] [] []
runs_none pipes = record { happens = tt; made_is = refl; heard_is = refl; gives = refl; leaves = refl }
