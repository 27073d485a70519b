-- What an event brings has to be own, or not all is own behind it.
use Rattle.std.proofs.Common.{◌≡◌, ℕ, List, [], ◌∷◌, ◌++◌, Bool, true, cond, ap, subst, ◌∙◌}
use Rattle.std.specs.List.{AllByRecursion}
use Rattle.shm_pools.specs.declared.notes.Note.{Note}
use Rattle.half_model.specs.Jobs.{Job, IsBack, Done, is_done, handed}
use Rattle.side_model.specs.Steps.{step}
use Rattle.receipt_laws.specs.Owning.{Ownership, NoteIsOwn, JobIsOwn}
use Rattle.receipt_laws.specs.OwnLaws.{NeedsOwn}
use Rattle.receipt_laws.specs.Lending.{IsIn, OneOut, sent_out}
use Rattle.receipt_laws.proofs.Jobs.{is_not_done}

all_right : {X : Type 0} (P : X → Type 0) (xs ys : List X) → AllByRecursion P (xs ++ ys) → AllByRecursion P ys
all_right P [] ys h = h
all_right P (x ∷ xs) ys h = all_right P xs ys h.1

back_with : Done → Job → Job
back_with done job = record job { state = IsBack done.words done.receipt }

handed_is : (done : Done) (job : Job) (before after : List Job) → AllByRecursion IsIn before → is_done done (sent_out job) ≡ true
    → handed done (before ++ sent_out job ∷ after) ≡ before ++ back_with done job ∷ after
unfolding back_with
handed_is done job [] after h e = ap (λ (b : Bool). cond b (back_with done job ∷ after) (sent_out job ∷ handed done after)) e
handed_is done job (other ∷ before) after h e =
    ap (λ (b : Bool). cond b (back_with done other ∷ (before ++ sent_out job ∷ after)) (other ∷ handed done (before ++ sent_out job ∷ after))) (is_not_done done other h.0)
    ∙ ap (λ (all : List Job). other ∷ all) (handed_is done job before after h.1 e)

module _ (Own : Ownership) where
  back_own : (done : Done) (job : Job) (jobs : List Job) → OneOut job jobs → is_done done (sent_out job) ≡ true → AllByRecursion (JobIsOwn Own) (handed done jobs) → JobIsOwn Own (back_with done job)
  back_own done job jobs h e all =
      let row : handed done jobs ≡ h.before ++ back_with done job ∷ h.after = ap (handed done) h.row ∙ handed_is done job h.before h.after h.in_before e in
      (all_right (JobIsOwn Own) h.before (back_with done job ∷ h.after) (subst (λ (them : List Job). AllByRecursion (JobIsOwn Own) them) row all)).0

  pub needs_own : NeedsOwn Own
  unfolding step back_with
  needs_own = record {
    note = λ note s h. (all_right (λ (it : ℕ × Note). NoteIsOwn Own it.1) s.live.sending.inlet.notes ((s.live.sending.inlet.fed, note) ∷ []) h.notes).0;
    handed = λ job done s h e own. back_own done job s.kept.jobs h e own.jobs;
  }
