-- What a side sent are the messages that are to be shown.
use Rattle.std.proofs.Common.{◌≡◌, ℕ, List, [], ◌∷◌, ◌++◌, ℤ, Option, Some, None, Result, map, option_to_list, refl, sym, ap, ◌∙◌}
use Rattle.std.proofs.lemmas.List.{map-append}
use Rattle.wp_outside.specs.declared.kinds.Side.{Side}
use Rattle.wp_outside.specs.declared.kinds.Side.TheVariants.{Near, Far}
use Rattle.wl_objects.specs.Registry.{ObjectsState, visible}
use Rattle.handle_table.specs.declared.handles.Handle.{Handle}
use Rattle.transfer_frames.specs.declared.frame.Frame.{Frame}
use Rattle.half_model.specs.declared.notes.CopyRecord.{CopyRecord}
use Rattle.half_model.specs.Log.{Mark, Taken, Heard, Grouped, Dropped, LogState, log_new, MayTake, MayHear, log_next, Logs}
use Rattle.half_model.specs.Planning.{Plan, Refusal, seen_from}
use Rattle.half_model.specs.Story.{Sent, taken_in, order_in, owed_messages, shown_of, rid_sent, sent_by_plan, sent_by, sent_from}
use Rattle.half_model.proofs.Shown.{heard_visible, taken_shown, taken_visible, group_objects}
use Rattle.half_model.proofs.ShownLaws.{shown_from}
use Rattle.half_model.proofs.Sound.{Sound, passed, after_taken, sound_next, sound_new}
use Rattle.pair_laws.specs.Received.{messages, SentIsShown}

-- ---- one mark

alone : (message : Option (List ℕ)) (rid : Option ℤ) → messages (map (λ it. (it, rid)) (option_to_list message)) ≡ option_to_list message
alone None rid = refl
alone (Some message) rid = refl

-- a message that is taken is sent as it is owed
taken_sent : (s : LogState) (message : List ℕ) (handle : Option Handle) (segments : List ℕ) → MayTake s message handle segments
    → messages (sent_by s (Taken message handle segments)) ≡ owed_messages (log_next s (Taken message handle segments)).owes
taken_sent s message handle segments may =
    let p = passed s message handle segments may in
    ap (λ (r : Result Plan Refusal). messages (sent_by_plan s handle r)) p.is
    ∙ alone p.it.shown (rid_sent s handle)
    ∙ ap (λ (t : LogState). owed_messages t.owes) (sym (after_taken s message handle segments p))

-- and owed as it is shown
taken_is_shown : (side : Side) (s : LogState) (message : List ℕ) (handle : Option Handle) (segments : List ℕ) (story : List Mark)
    → s.tables.handles.side ≡ side → MayTake s message handle segments
    → shown_from side s (Taken message handle segments ∷ story)
    ≡ owed_messages (log_next s (Taken message handle segments)).owes ++ shown_from side (log_next s (Taken message handle segments)) story
taken_is_shown Near s message handle segments story is may =
    let p = passed s message handle segments may in
    ap (λ (ms : List (List ℕ)). ms ++ taken_in story)
    (sym (taken_shown s message handle segments p
    ∙ ap (λ (sd : Side). option_to_list (seen_from sd (record { tracked = p.done.objects; hidden = s.tables.objects.hidden }) message).shown) is))
taken_is_shown Far s message handle segments story is may = taken_visible s message handle segments (order_in Far story) is may

heard_shows : (side : Side) (s : LogState) (frame : Frame) (story : List Mark) → s.tables.handles.side ≡ side → MayHear s frame
    → shown_from side s (Heard frame ∷ story) ≡ shown_from side (log_next s (Heard frame)) story
heard_shows Near s frame story is may = refl
heard_shows Far s frame story is may = heard_visible s frame (order_in Far story) is may

made_shows : (side : Side) (s : LogState) (frames : List Frame) (copies : List CopyRecord) (story : List Mark)
    → shown_from side s (Grouped frames copies ∷ story) ≡ shown_from side (log_next s (Grouped frames copies)) story
made_shows Near s frames copies story = refl
made_shows Far s frames copies story = ap (λ (o : ObjectsState). visible o (order_in Far story)) (sym (group_objects s s.owes frames))

dropped_shows : (side : Side) (s : LogState) (rid : ℤ) (story : List Mark) → shown_from side s (Dropped rid ∷ story) ≡ shown_from side (log_next s (Dropped rid)) story
dropped_shows Near s rid story = refl
dropped_shows Far s rid story = refl

-- ---- a story

sent_shows : (side : Side) (s : LogState) (story : List Mark) → Sound side s → Logs s story → messages (sent_from s story) ≡ shown_from side s story
sent_shows Near s [] h logs = refl
sent_shows Far s [] h logs = refl
sent_shows side s (Taken message handle segments ∷ story) h logs =
    let mark : Mark = Taken message handle segments in
    map-append (λ (it : Sent). it.0) (sent_by s mark) (sent_from (log_next s mark) story)
    ∙ ap (λ (ms : List (List ℕ)). ms ++ messages (sent_from (log_next s mark) story)) (taken_sent s message handle segments logs.0)
    ∙ ap (λ (ms : List (List ℕ)). owed_messages (log_next s mark).owes ++ ms) (sent_shows side (log_next s mark) story (sound_next side s mark h logs.0) logs.1)
    ∙ sym (taken_is_shown side s message handle segments story h.tables.0 logs.0)
sent_shows side s (Heard frame ∷ story) h logs =
    sent_shows side (log_next s (Heard frame)) story (sound_next side s (Heard frame) h logs.0) logs.1 ∙ sym (heard_shows side s frame story h.tables.0 logs.0)
sent_shows side s (Dropped rid ∷ story) h logs =
    sent_shows side (log_next s (Dropped rid)) story (sound_next side s (Dropped rid) h logs.0) logs.1 ∙ sym (dropped_shows side s rid story)
sent_shows side s (Grouped frames copies ∷ story) h logs =
    sent_shows side (log_next s (Grouped frames copies)) story (sound_next side s (Grouped frames copies) h logs.0) logs.1 ∙ sym (made_shows side s frames copies story)

shown_all : (side : Side) (story : List Mark) → shown_from side (log_new side) story ≡ shown_of side story
shown_all Near story = refl
shown_all Far story = refl

pub sent_is_shown : SentIsShown
sent_is_shown side story logs = sent_shows side (log_new side) story (sound_new side) logs ∙ shown_all side story
