-- What the store tells behind each of its calls, beside the lines of both sides.
use Rattle.std.proofs.Common.{◌≡◌, ◌≢◌, ℕ, ◌==◌, cond, eqb, Bool, true, false, List, [], ◌∷◌, ◌++◌, take, refl, sym, ap, subst, ◌∙◌, append_assoc, inl, inr, ◌⊎◌}
use Rattle.std.proofs.lemmas.Bool.{cases_eq, eq-eqb, ne_eqb}
use Rattle.std.proofs.lemmas.List.{append-nil}
use Rattle.wp_outside.specs.declared.kinds.Direction.{Direction}
use Rattle.wp_outside.specs.declared.kinds.Direction.TheVariants.{Up, Down}
use Rattle.wp_outside.specs.declared.kinds.Side.{Side}
use Rattle.wp_outside.specs.declared.kinds.Side.TheVariants.{Near, Far}
use Rattle.wp_outside.specs.Lines as outside
use Rattle.wp_outside.specs.Lines.{Lane, lane_of, pushed_onto, pulled_from, spoiled_at, cut_line, opened_line, fresh_line, lane_with_pushed, lane_with_pulled, Became}
use Rattle.pair_model.specs.Lines.{Line, written_on, read_on}
use Rattle.pair_model.specs.Steps.{on_last, with_written, with_read}
use Rattle.pair_model.proofs.LastLine.{on_last-push, written_before, read_before}
use Rattle.pair_runs.specs.Linking.{new_line}
use Rattle.pair_runs.specs.Sides.{last_number}
use Rattle.pair_runs.proofs.Lines.{HasLast, written_there, read_there, read_written, written_read}
use Rattle.script_replay.specs.Telling.{TellsLane, TellsLine, Tells, TellsBut, refused_by}

-- ---- lines of both sides

no_bytes : List ℕ
no_bytes = []

cond_none : (b : Bool) → cond b no_bytes no_bytes ≡ no_bytes
unfolding no_bytes
cond_none true = refl
cond_none false = refl

-- a line on which nothing was written or read adds nothing
written_new : (n c : ℕ) (rows : List Line) → written_on n (rows ++ new_line c ∷ []) ≡ written_on n rows
unfolding no_bytes
written_new n c [] = cond_none (eqb c n)
written_new n c (line ∷ rows) = ap (λ (rest : List ℕ). cond (eqb line.connection n) line.written rest) (written_new n c rows)

read_new : (n c : ℕ) (rows : List Line) → read_on n (rows ++ new_line c ∷ []) ≡ read_on n rows
unfolding no_bytes
read_new n c [] = cond_none (eqb c n)
read_new n c (line ∷ rows) = ap (λ (rest : List ℕ). cond (eqb line.connection n) line.read rest) (read_new n c rows)

-- the last line alone changes
written_elsewhere : (bytes : List ℕ) (c : ℕ) (rows : List Line) → HasLast rows → (last_number rows ≡ c → ⊥) → written_on c (on_last (with_written bytes) rows) ≡ written_on c rows
written_elsewhere bytes c rows h apart =
    let other : h.line.connection ≢ c = λ e. apart (h.number ∙ e) in
    ap (λ (lines : List Line). written_on c (on_last (with_written bytes) lines)) h.is
    ∙ ap (λ (lines : List Line). written_on c lines) (on_last-push (with_written bytes) h.earlier h.line)
    ∙ written_before h.earlier (with_written bytes h.line) c other
    ∙ sym (ap (λ (lines : List Line). written_on c lines) h.is ∙ written_before h.earlier h.line c other)

read_elsewhere : (bytes : List ℕ) (c : ℕ) (rows : List Line) → HasLast rows → (last_number rows ≡ c → ⊥) → read_on c (on_last (with_read bytes) rows) ≡ read_on c rows
read_elsewhere bytes c rows h apart =
    let other : h.line.connection ≢ c = λ e. apart (h.number ∙ e) in
    ap (λ (lines : List Line). read_on c (on_last (with_read bytes) lines)) h.is
    ∙ ap (λ (lines : List Line). read_on c lines) (on_last-push (with_read bytes) h.earlier h.line)
    ∙ read_before h.earlier (with_read bytes h.line) c other
    ∙ sym (ap (λ (lines : List Line). read_on c lines) h.is ∙ read_before h.earlier h.line c other)

-- ---- a lane

-- a lane that tells as before
lane_as : (n : ℕ) (w r w2 r2 : List Line) (lane lane2 : Lane) → written_on n w2 ≡ written_on n w → read_on n r2 ≡ read_on n r → lane2.pushed ≡ lane.pushed → lane2.pulled ≡ lane.pulled → TellsLane n w r [] lane → TellsLane n w2 r2 [] lane2
lane_as n w r w2 r2 lane lane2 ew er p q t = record {
  pushed = p ∙ t.pushed ∙ sym ew;
  pulled = q ∙ t.pulled ∙ ap (λ (front : List ℕ). front ++ []) (sym er);
}

-- bytes are pushed onto the lane of connection c, the writer's last one
lane_pushed : (n c : ℕ) (bytes : List ℕ) (w r : List Line) (lane lane2 : Lane) → HasLast w → last_number w ≡ c → (c ≡ n) ⊎ (c ≡ n → ⊥) → (n ≡ c → lane2 ≡ lane_with_pushed bytes lane) → (n ≢ c → lane2 ≡ lane) → TellsLane n w r [] lane
    → TellsLane n (on_last (with_written bytes) w) r [] lane2
lane_pushed n c bytes w r lane lane2 h last (inl e) here others t =
    let there : written_on n (on_last (with_written bytes) w) ≡ written_on n w ++ bytes = subst (λ (m : ℕ). written_on m (on_last (with_written bytes) w) ≡ written_on m w ++ bytes) (last ∙ e) (written_there bytes w h) in
    let is : lane2 ≡ lane_with_pushed bytes lane = here (sym e) in
    record {
      pushed = ap (λ (it : Lane). it.pushed) is ∙ ap (λ (front : List ℕ). front ++ bytes) t.pushed ∙ sym there;
      pulled = ap (λ (it : Lane). it.pulled) is ∙ t.pulled;
    }
lane_pushed n c bytes w r lane lane2 h last (inr apart) here others t =
    let is : lane2 ≡ lane = others (λ e. apart (sym e)) in
    record {
      pushed = ap (λ (it : Lane). it.pushed) is ∙ t.pushed ∙ sym (written_elsewhere bytes n w h (λ e. apart (sym last ∙ e)));
      pulled = ap (λ (it : Lane). it.pulled) is ∙ t.pulled;
    }

-- the first of what waits on connection c, the reader's last one, is pulled; some of it may be refused
lane_pulled : (n c : ℕ) (got refused more : List ℕ) (w r : List Line) (lane lane2 : Lane) → HasLast r → last_number r ≡ c → (c ≡ n) ⊎ (c ≡ n → ⊥) → (n ≡ c → (lane2.pushed ≡ lane.pushed) × (lane2.pulled ≡ lane.pulled ++ (got ++ refused)) × (more ≡ refused))
    → (n ≢ c → (lane2 ≡ lane) × (more ≡ [])) → TellsLane n w r [] lane → TellsLane n w (on_last (with_read got) r) more lane2
lane_pulled n c got refused more w r lane lane2 h last (inl e) here others t =
    let there : read_on n (on_last (with_read got) r) ≡ read_on n r ++ got = subst (λ (m : ℕ). read_on m (on_last (with_read got) r) ≡ read_on m r ++ got) (last ∙ e) (read_there got r h) in
    let is = here (sym e) in
    let was : lane.pulled ≡ read_on n r = t.pulled ∙ append-nil (read_on n r) in
    record {
      pushed = is.0 ∙ t.pushed;
      pulled = is.1 ∙ ap (λ (front : List ℕ). front ++ (got ++ refused)) was ∙ sym (append_assoc (read_on n r) got refused) ∙ ap (λ (front : List ℕ). front ++ refused) (sym there) ∙ ap (λ (end : List ℕ). read_on n (on_last (with_read got) r) ++ end) (sym is.2);
    }
lane_pulled n c got refused more w r lane lane2 h last (inr apart) here others t =
    let is = others (λ e. apart (sym e)) in
    record {
      pushed = ap (λ (it : Lane). it.pushed) is.0 ∙ t.pushed;
      pulled = ap (λ (it : Lane). it.pulled) is.0 ∙ t.pulled ∙ ap (λ (front : List ℕ). front ++ []) (sym (read_elsewhere got n r h (λ e. apart (sym last ∙ e)))) ∙ ap (λ (end : List ℕ). read_on n (on_last (with_read got) r) ++ end) (sym is.1);
    }

-- ---- a connection more

pub half_opened : (near far other_near other_far : List Line) (line : ℕ → outside.Line) → ((n : ℕ) → (written_on n other_near ≡ written_on n near) × (read_on n other_near ≡ read_on n near)) → ((n : ℕ) → (written_on n other_far ≡ written_on n far) × (read_on n other_far ≡ read_on n far))
    → Tells near far line → Tells other_near other_far line
half_opened near far other_near other_far line en ef t = λ n. record {
  up = lane_as n near far other_near other_far (line n).up (line n).up (en n).0 (ef n).1 refl refl (t n).up;
  down = lane_as n far near other_far other_near (line n).down (line n).down (ef n).0 (en n).1 refl refl (t n).down;
}

pub with_new : (c : ℕ) (rows : List Line) (n : ℕ) → (written_on n (rows ++ new_line c ∷ []) ≡ written_on n rows) × (read_on n (rows ++ new_line c ∷ []) ≡ read_on n rows)
with_new c rows n = (written_new n c rows, read_new n c rows)

pub with_same : (rows : List Line) (n : ℕ) → (written_on n rows ≡ written_on n rows) × (read_on n rows ≡ read_on n rows)
with_same rows n = (refl, refl)

-- a store in which one connection became another that tells the same
pub same_tells : (near far : List Line) (before after : ℕ → outside.Line) (c : ℕ) (change : outside.Line → outside.Line) → Became before after c change
    → ((change (before c)).up.pushed ≡ (before c).up.pushed) × ((change (before c)).up.pulled ≡ (before c).up.pulled) × ((change (before c)).down.pushed ≡ (before c).down.pushed) × ((change (before c)).down.pulled ≡ (before c).down.pulled)
    → Tells near far before → Tells near far after
same_tells near far before after c change b same t = λ n. go n (cases_eq c n)
  where
    go : (n : ℕ) → (c ≡ n) ⊎ (c ≡ n → ⊥) → TellsLine n near far [] [] (after n)
    go n (inl e) =
        subst (λ (m : ℕ). TellsLine m near far [] [] (after m)) e
        (subst (λ (it : outside.Line). TellsLine c near far [] [] it) (sym b.here) (record {
          up = lane_as c near far near far (before c).up (change (before c)).up refl refl same.0 same.1 (t c).up;
          down = lane_as c far near far near (before c).down (change (before c)).down refl refl same.2 same.3 (t c).down;
        }))
    go n (inr apart) = subst (λ (it : outside.Line). TellsLine n near far [] [] it) (sym (b.others n (λ e. apart (sym e)))) (t n)

pub opened_tells : (near far : List Line) (before after : ℕ → outside.Line) (c : ℕ) → Became before after c (λ _. opened_line) → before c ≡ fresh_line → Tells near far before
    → Tells (near ++ new_line c ∷ []) (far ++ new_line c ∷ []) after
opened_tells near far before after c b fresh t =
    half_opened near far (near ++ new_line c ∷ []) (far ++ new_line c ∷ []) after (with_new c near) (with_new c far)
    (same_tells near far before after c (λ _. opened_line) b
    (sym (ap (λ (it : outside.Line). it.up.pushed) fresh), sym (ap (λ (it : outside.Line). it.up.pulled) fresh), sym (ap (λ (it : outside.Line). it.down.pushed) fresh), sym (ap (λ (it : outside.Line). it.down.pulled) fresh)) t)

-- ---- one that ends, and a byte of it

pub cut_tells : (near far : List Line) (before after : ℕ → outside.Line) (c : ℕ) → Became before after c cut_line → Tells near far before → Tells near far after
cut_tells near far before after c b t = same_tells near far before after c cut_line b (refl, refl, refl, refl) t

pub spoiled_tells : (dir : Direction) (offset byte : ℕ) (near far : List Line) (before after : ℕ → outside.Line) (c : ℕ) → Became before after c (spoiled_at dir offset byte) → Tells near far before → Tells near far after
spoiled_tells Up offset byte near far before after c b t = same_tells near far before after c (spoiled_at Up offset byte) b (refl, refl, refl, refl) t
spoiled_tells Down offset byte near far before after c b t = same_tells near far before after c (spoiled_at Down offset byte) b (refl, refl, refl, refl) t

-- ---- bytes onto it

-- a connection that stays, or became another
at_line : (before after : ℕ → outside.Line) (c : ℕ) (change : outside.Line → outside.Line) (n : ℕ) → Became before after c change → n ≡ c → after n ≡ change (before n)
at_line before after c change n b e = subst (λ (m : ℕ). after m ≡ change (before m)) (sym e) b.here

pub pushed_up : (bytes : List ℕ) (near far : List Line) (before after : ℕ → outside.Line) (c : ℕ) → Became before after c (pushed_onto Up bytes) → HasLast near → last_number near ≡ c → Tells near far before → Tells (on_last (with_written bytes) near) far after
pushed_up bytes near far before after c b h last t = λ n. record {
  up = lane_pushed n c bytes near far (before n).up (after n).up h last (cases_eq c n) (λ e. ap (λ (it : outside.Line). it.up) (at_line before after c (pushed_onto Up bytes) n b e)) (λ apart. ap (λ (it : outside.Line). it.up) (b.others n apart)) (t n).up;
  down = down n (cases_eq c n);
}
  where
    down : (n : ℕ) → (c ≡ n) ⊎ (c ≡ n → ⊥) → TellsLane n far (on_last (with_written bytes) near) [] (after n).down
    down n (inl e) = let is = at_line before after c (pushed_onto Up bytes) n b (sym e) in lane_as n far near far (on_last (with_written bytes) near) (before n).down (after n).down refl (read_written bytes n near) (ap (λ (it : outside.Line). it.down.pushed) is) (ap (λ (it : outside.Line). it.down.pulled) is) (t n).down
    down n (inr apart) = let is = b.others n (λ e. apart (sym e)) in lane_as n far near far (on_last (with_written bytes) near) (before n).down (after n).down refl (read_written bytes n near) (ap (λ (it : outside.Line). it.down.pushed) is) (ap (λ (it : outside.Line). it.down.pulled) is) (t n).down

pub pushed_down : (bytes : List ℕ) (near far : List Line) (before after : ℕ → outside.Line) (c : ℕ) → Became before after c (pushed_onto Down bytes) → HasLast far → last_number far ≡ c → Tells near far before → Tells near (on_last (with_written bytes) far) after
pushed_down bytes near far before after c b h last t = λ n. record {
  up = up n (cases_eq c n);
  down = lane_pushed n c bytes far near (before n).down (after n).down h last (cases_eq c n) (λ e. ap (λ (it : outside.Line). it.down) (at_line before after c (pushed_onto Down bytes) n b e)) (λ apart. ap (λ (it : outside.Line). it.down) (b.others n apart)) (t n).down;
}
  where
    up : (n : ℕ) → (c ≡ n) ⊎ (c ≡ n → ⊥) → TellsLane n near (on_last (with_written bytes) far) [] (after n).up
    up n (inl e) = let is = at_line before after c (pushed_onto Down bytes) n b (sym e) in lane_as n near far near (on_last (with_written bytes) far) (before n).up (after n).up refl (read_written bytes n far) (ap (λ (it : outside.Line). it.up.pushed) is) (ap (λ (it : outside.Line). it.up.pulled) is) (t n).up
    up n (inr apart) = let is = b.others n (λ e. apart (sym e)) in lane_as n near far near (on_last (with_written bytes) far) (before n).up (after n).up refl (read_written bytes n far) (ap (λ (it : outside.Line). it.up.pushed) is) (ap (λ (it : outside.Line). it.up.pulled) is) (t n).up

-- ---- bytes off it, of which some may be refused

pub pulled_up : (got refused : List ℕ) (count : ℕ) (near far : List Line) (before after : ℕ → outside.Line) (c : ℕ) → Became before after c (pulled_from Up count) → take count (before c).up.waiting ≡ got ++ refused → HasLast far → last_number far ≡ c → Tells near far before
    → TellsBut Far c refused near (on_last (with_read got) far) after
pulled_up got refused count near far before after c b is h last t = λ n. record {
  up = lane_pulled n c got refused (refused_by Far Far (n == c) refused) near far (before n).up (after n).up h last (cases_eq c n) (here n) (others n) (t n).up;
  down = down n (cases_eq c n);
}
  where
    here : (n : ℕ) → n ≡ c → ((after n).up.pushed ≡ (before n).up.pushed) × ((after n).up.pulled ≡ (before n).up.pulled ++ (got ++ refused)) × (refused_by Far Far (n == c) refused ≡ refused)
    here n e =
        let at = at_line before after c (pulled_from Up count) n b e in (
          ap (λ (it : outside.Line). it.up.pushed) at,
          ap (λ (it : outside.Line). it.up.pulled) at ∙ ap (λ (bytes : List ℕ). (before n).up.pulled ++ bytes) (subst (λ (m : ℕ). take count (before m).up.waiting ≡ got ++ refused) (sym e) is),
          ap (λ (there : Bool). refused_by Far Far there refused) (eq-eqb n c e),
        )

    others : (n : ℕ) → n ≢ c → ((after n).up ≡ (before n).up) × (refused_by Far Far (n == c) refused ≡ [])
    others n apart = (ap (λ (it : outside.Line). it.up) (b.others n apart), ap (λ (there : Bool). refused_by Far Far there refused) (ne_eqb n c apart))

    down : (n : ℕ) → (c ≡ n) ⊎ (c ≡ n → ⊥) → TellsLane n (on_last (with_read got) far) near [] (after n).down
    down n (inl e) = let at = at_line before after c (pulled_from Up count) n b (sym e) in lane_as n far near (on_last (with_read got) far) near (before n).down (after n).down (written_read got n far) refl (ap (λ (it : outside.Line). it.down.pushed) at) (ap (λ (it : outside.Line). it.down.pulled) at) (t n).down
    down n (inr apart) = let at = b.others n (λ e. apart (sym e)) in lane_as n far near (on_last (with_read got) far) near (before n).down (after n).down (written_read got n far) refl (ap (λ (it : outside.Line). it.down.pushed) at) (ap (λ (it : outside.Line). it.down.pulled) at) (t n).down

pub pulled_down : (got refused : List ℕ) (count : ℕ) (near far : List Line) (before after : ℕ → outside.Line) (c : ℕ) → Became before after c (pulled_from Down count) → take count (before c).down.waiting ≡ got ++ refused → HasLast near → last_number near ≡ c → Tells near far before
    → TellsBut Near c refused (on_last (with_read got) near) far after
pulled_down got refused count near far before after c b is h last t = λ n. record {
  up = up n (cases_eq c n);
  down = lane_pulled n c got refused (refused_by Near Near (n == c) refused) far near (before n).down (after n).down h last (cases_eq c n) (here n) (others n) (t n).down;
}
  where
    here : (n : ℕ) → n ≡ c → ((after n).down.pushed ≡ (before n).down.pushed) × ((after n).down.pulled ≡ (before n).down.pulled ++ (got ++ refused)) × (refused_by Near Near (n == c) refused ≡ refused)
    here n e =
        let at = at_line before after c (pulled_from Down count) n b e in (
          ap (λ (it : outside.Line). it.down.pushed) at,
          ap (λ (it : outside.Line). it.down.pulled) at ∙ ap (λ (bytes : List ℕ). (before n).down.pulled ++ bytes) (subst (λ (m : ℕ). take count (before m).down.waiting ≡ got ++ refused) (sym e) is),
          ap (λ (there : Bool). refused_by Near Near there refused) (eq-eqb n c e),
        )

    others : (n : ℕ) → n ≢ c → ((after n).down ≡ (before n).down) × (refused_by Near Near (n == c) refused ≡ [])
    others n apart = (ap (λ (it : outside.Line). it.down) (b.others n apart), ap (λ (there : Bool). refused_by Near Near there refused) (ne_eqb n c apart))

    up : (n : ℕ) → (c ≡ n) ⊎ (c ≡ n → ⊥) → TellsLane n (on_last (with_read got) near) far [] (after n).up
    up n (inl e) = let at = at_line before after c (pulled_from Down count) n b (sym e) in lane_as n near far (on_last (with_read got) near) far (before n).up (after n).up (written_read got n near) refl (ap (λ (it : outside.Line). it.up.pushed) at) (ap (λ (it : outside.Line). it.up.pulled) at) (t n).up
    up n (inr apart) = let at = b.others n (λ e. apart (sym e)) in lane_as n near far (on_last (with_read got) near) far (before n).up (after n).up (written_read got n near) refl (ap (λ (it : outside.Line). it.up.pushed) at) (ap (λ (it : outside.Line). it.up.pulled) at) (t n).up

-- where none were refused it tells just what both have
pub none_refused : (side : Side) (c : ℕ) (near far : List Line) (line : ℕ → outside.Line) → TellsBut side c [] near far line → Tells near far line
none_refused side c near far line t = λ n. go side (n == c) n (line n) (t n)
  where
    go : (side : Side) (there : Bool) (n : ℕ) (it : outside.Line) → TellsLine n near far (refused_by Far side there []) (refused_by Near side there []) it → TellsLine n near far [] [] it
    go Near true n it h = h
    go Near false n it h = h
    go Far true n it h = h
    go Far false n it h = h
