-- Each word of a message's filled blocks stood in the peer's memory where its copies did.
use Rattle.std.proofs.Common.{◌≡◌, ℕ, zero, suc, ◌+◌, ◌/◌, ◌<◌, true, List, [], ◌∷◌, length, get_or, sum, Option, Some, None, unwrap_or, refl, sym, ap, ◌∙◌, subst, arith, ⊎_elim, leb}
use Rattle.std.proofs.Math.Dec.{ltb}
use Rattle.std.proofs.lemmas.Bool.{cond-true, lt-ltb, false≢true, ltb-true, and_parts, or_cases}
use Rattle.std.proofs.lemmas.List.{get_or-map, length-map}
use Rattle.std.proofs.lemmas.List.Elements.{All-contains, All-get_or}
use Rattle.std.specs.Option.{IsSomeAnd}
use Rattle.pool_words.specs.declared.views.Sight.{Sight}
use Rattle.pool_words.specs.declared.views.Load.{Load}
use Rattle.pool_words.specs.History.{HasStood}
use Rattle.pool_words.specs.Views.{sight, sights, load}
use Rattle.pool_words.proofs.Stretches.{committed}
use Rattle.shm_pools.specs.declared.places.WordPlace.{WordPlace}
use Rattle.shm_pools.specs.Files.{segment_of, offset_of}
use Rattle.block_intervals.specs.declared.run.Run.{Run}
use Rattle.block_intervals.specs.Sets.{has, lies_within}
use Rattle.transfer_frames.specs.Numbers.{long_bytes}
use Rattle.half_model.specs.declared.notes.CopyRecord.{CopyRecord}
use Rattle.half_model.specs.Filling.{Ascends, words_bytes}
use Rattle.half_model.specs.Group.{Owed, words_in}
use Rattle.half_model.specs.StoryLaws.{now}
use Rattle.half_model.proofs.Sound.{sound_now}
use Rattle.mirror_laws.specs.MirrorLaws.{IsFilled, Fills, told_of, mirror_of, mirror_behind}
use Rattle.mirror_laws.specs.StoodLaws.{Histories, history_of, loads_of, CopyStood, AllStood, load_at, WordStood, WordsStood, UntouchedIsNoted}
use Rattle.mirror_laws.proofs.Copying.{good_owed}
use Rattle.mirror_laws.proofs.Filling.{ends_by}
use Rattle.mirror_laws.proofs.Mirrors.{own_at_message}
use Rattle.mirror_laws.proofs.Words.{WordCopied, in_pieces}

-- ---- one copy

length-sights : (first : ℕ) (words : List ℕ) → length (sights first words) ≡ length words
length-sights first [] = refl
length-sights first (word ∷ words) = let e = length-sights (first + 1) words in omega (arith, e)

sights_at : (first : ℕ) (words : List ℕ) (index : ℕ) (d : Sight) → index < length words → get_or (sights first words) index d ≡ sight (first + index) (get_or words index 0)
sights_at first [] index d l = absurd (omega (arith, l))
sights_at first (word ∷ words) zero d l = let e : first ≡ first + 0 = omega arith in ap (λ (n : ℕ). sight n word) e
sights_at first (word ∷ words) (suc index) d l =
    let e : first + 1 + index ≡ first + suc index = omega arith in
    sights_at (first + 1) words index d (omega (arith, l)) ∙ ap (λ (n : ℕ). sight n (get_or words index 0)) e

-- a word of a copy that stood
word_stood : (histories : Histories) (copy : CopyRecord) (index : ℕ) → CopyStood histories copy → index < length copy.words
    → HasStood (history_of histories copy) (load_at copy index)
word_stood histories copy index stood l =
    let seen = sights copy.first copy.words in
    let none : Sight = sight 0 0 in
    let blank : Load = load 0 0 none in
    let len = length-sights copy.first copy.words in
    let all = length-map seen (load copy.low copy.high) in
    let P : Load → Type 0 = HasStood (history_of histories copy) in
    let at : get_or (loads_of copy) index blank ≡ load_at copy index =
    get_or-map (load copy.low copy.high) seen index none blank (omega (arith, len, l)) ∙ ap (load copy.low copy.high) (sights_at copy.first copy.words index none l) in
    subst P at (All-get_or P (loads_of copy) index blank (omega (arith, all, len, l)) stood)

-- ---- one word of a mirror

stood_word : (histories : Histories) (owed : Owed) (copies : List CopyRecord) (mirror : List ℕ) (word : ℕ) → AllStood histories copies → word < sum owed.segments
    → WordCopied owed.file owed.segments copies mirror word → WordStood histories owed copies word mirror
stood_word histories owed copies mirror word all l h =
    let one = h.is in
    let seg = one.segment_is in
    let at : segment_of owed.segments word ≡ one.copy.segment = omega (arith, seg) in
    record {
      copy = one.copy;
      is_one = one.is_one;
      index = one.index;
      within = one.within;
      is = h.bytes ∙ ap long_bytes (sym one.value_is);
      file = one.file_is;
      place =
          cond-true (ltb word (sum owed.segments)) (Some (record { segment = segment_of owed.segments word; word = offset_of owed.segments word })) None (lt-ltb word (sum owed.segments) l)
          ∙ ap (λ (n : ℕ). let p : WordPlace = record { segment = n; word = offset_of owed.segments word } in Some p) at
          ∙ ap (λ (n : ℕ). let p : WordPlace = record { segment = one.copy.segment; word = n } in Some p) (sym one.word_is);
      stood = word_stood histories one.copy one.index (All-contains (CopyStood histories) copies one.copy all one.is_one) one.within;
    }

-- a mirror with filled blocks is there
filled_there : (told : Option ℕ) (pieces : List Run) (bytes : List ℕ) (old new : Option (List ℕ)) (block : ℕ) (P : List ℕ → Type 0)
    → Fills told pieces bytes old new → has block pieces ≡ true
    → ((size : ℕ) (mirror : List ℕ) → IsFilled size pieces bytes (unwrap_or old []) mirror → P mirror) → IsSomeAnd new P
filled_there None pieces bytes old new block P h one use' = absurd (false≢true (ap (has block) (sym h.0) ∙ one))
filled_there (Some size) pieces bytes old None block P h one use' = absurd h
filled_there (Some size) pieces bytes old (Some new) block P h one use' = use' size new h

below : (block low high : ℕ) (pieces : List Run) → Ascends low pieces high → has block pieces ≡ true → block < high
below block low high [] asc one = absurd (false≢true one)
below block low high (piece ∷ pieces) asc one =
    let end = ends_by piece.end pieces high asc.2 in
    ⊎_elim
    (λ within. let l = ltb-true block piece.end (and_parts (leb piece.first block) (ltb block piece.end) within).1 in omega (arith, l, end))
    (λ further. below block piece.end high pieces asc.2 further)
    (or_cases (lies_within piece.first piece.end block) (has block pieces) one)

pub words_stood : WordsStood
words_stood side story owed copies front histories word group all one =
    let good = good_owed side (now side story) owed (sound_now side story group.is_story) group.owes in
    let up = good.ascend in
    let top = below (word / 8) 0 good.high owed.pieces up one in
    let cover = good.covered in
    filled_there (told_of side story owed.rid) owed.pieces (words_bytes (words_in copies)) (mirror_of story owed.rid) (mirror_behind story front owed.rid) (word / 8)
    (WordStood histories owed copies word)
    (own_at_message side story owed copies front group) one
    (λ size mirror filled.
    stood_word histories owed copies mirror word all (omega (arith, top, cover))
    (in_pieces owed.file owed.segments 0 (length mirror / 64) good.high owed.pieces copies mirror word filled.within (omega arith) up cover
    group.is_group.are_parts filled.filled one))

pub untouched_is_noted : UntouchedIsNoted
untouched_is_noted histories owed copies word mirror stood untouched =
    let copy : CopyRecord = stood.copy in
    stood.is
    ∙ ap long_bytes (committed (history_of histories copy) copy.low copy.high (copy.first + stood.index) (get_or copy.words stood.index 0) stood.stood.1 untouched)
