-- The rooms that a gate is opened with.
use Rattle.std.proofs.Common.{◌≡◌, ◌≤◌, ◌<◌, ℕ, ◌*◌, ◌^◌, List, [], ◌∷◌, length, get_or, map, subst, sym, ap, ◌∙◌, arith}
use Rattle.std.specs.Prelude.{slice_index}
use Rattle.std.proofs.Math.Decide.{dec_lt}
use Rattle.std.proofs.lemmas.Nat.{mul-le}
use Rattle.std.proofs.lemmas.List.{get_or-map, length-map}
use Rattle.bw_gate.specs.declared.terms.Room.{Room}
use Rattle.bw_gate.specs.Word.{used_of, cap_of, word_of, IsLimit, IsWord, first_word}
use Rattle.bw_gate.specs.Terms.{AreRooms, IsMachine, terms_of, cpus_in, limit_in}
use Rattle.bw_gate.specs.Table.{IsTableKept, blank_table}
use Rattle.bw_gate.proofs.Parts.{new_cap, of_parts}
use Rattle.bw_gate.proofs.Views.{past_end}
use Rattle.bw_gate.proofs.Steps.{begins}

abbrev pub none : Room
none = record { cpus = 0; limit = 0 }

first_is : (r : Room) → word_of (r.cpus * r.limit) 0 ≡ first_word r
first_is r = omega arith

module _ (rooms : List Room) (n : ℕ) (h : AreRooms rooms n) where
  pub cpus_at : (i : ℕ) → i < length rooms → cpus_in (terms_of rooms n) i ≡ (get_or rooms i none).cpus
  cpus_at i lt = get_or-map (λ (r : Room). r.cpus) rooms i none 0 lt

  pub machine_at : (i : ℕ) → i < length rooms → IsMachine (get_or rooms i none).cpus
  machine_at i lt =
      let long = length-map rooms (λ (r : Room). r.cpus) in
      subst IsMachine (cpus_at i lt) (h.terms.small i 0 (omega (arith, long, lt)))

  pub limit_at : (i : ℕ) → i < length rooms → IsLimit (get_or rooms i none).limit
  limit_at i lt = h.limits i none lt

  pub cap_at : (i : ℕ) → i < length rooms → (get_or rooms i none).cpus * (get_or rooms i none).limit ≤ 2 ^ 26
  cap_at i lt = mul-le (get_or rooms i none).cpus (get_or rooms i none).limit 64 1048576 (machine_at i lt).most (limit_at i lt).most

  word_at : (i : ℕ) → i < length rooms → slice_index (map first_word rooms) i ≡ first_word (get_or rooms i none)
  word_at i lt = get_or-map first_word rooms i none 0 lt

  nothing_used : (d : ℕ) → Dec (d < length rooms) → used_of (slice_index (map first_word rooms) d) ≡ 0
  nothing_used d (yes lt) =
      let r = get_or rooms d none in
      ap used_of (word_at d lt ∙ sym (first_is r)) ∙ (of_parts (r.cpus * r.limit) 0 (omega arith)).0
  nothing_used d (no ge) =
      let long = length-map rooms first_word in
      ap used_of (past_end (map first_word rooms) d (omega (arith, long, ge)))

  first_sound : (d : ℕ) → d < length (terms_of rooms n).cpus → IsWord (cpus_in (terms_of rooms n) d) (slice_index (map first_word rooms) d)
  first_sound d within =
      let long = length-map rooms (λ (r : Room). r.cpus) in
      let lt : d < length rooms = omega (arith, long, within) in
      let r = get_or rooms d none in
      let word : IsWord r.cpus (first_word r) = subst (IsWord r.cpus) (first_is r) (new_cap r.cpus r.limit 0 (machine_at d lt).most (limit_at d lt) (omega arith)) in
      subst (λ w. IsWord (cpus_in (terms_of rooms n) d) w) (sym (word_at d lt)) (subst (λ k. IsWord k (first_word r)) (sym (cpus_at d lt)) word)

  -- each word carries the cap of its room
  first_cap : (d : ℕ) → d < length (terms_of rooms n).cpus → cap_of (slice_index (map first_word rooms) d) ≡ cpus_in (terms_of rooms n) d * limit_in (terms_of rooms n) d
  first_cap d within =
      let long = length-map rooms (λ (r : Room). r.cpus) in
      let lt : d < length rooms = omega (arith, long, within) in
      let r = get_or rooms d none in
      let limit : limit_in (terms_of rooms n) d ≡ r.limit = get_or-map (λ (r : Room). r.limit) rooms d none 0 lt in
      ap cap_of (word_at d lt ∙ sym (first_is r)) ∙ (of_parts (r.cpus * r.limit) 0 (omega arith)).1
      ∙ ap (λ (k : ℕ). k * r.limit) (sym (cpus_at d lt)) ∙ ap (λ (k : ℕ). cpus_in (terms_of rooms n) d * k) (sym limit)

  pub rooms_begin : IsTableKept (terms_of rooms n) (map first_word rooms) (blank_table (terms_of rooms n) ∷ [])
  rooms_begin =
      let a = length-map rooms (λ (r : Room). r.cpus) in
      let b = length-map rooms first_word in
      begins (terms_of rooms n) (map first_word rooms) (omega (arith, a, b)) (λ d. nothing_used d (dec_lt d (length rooms))) first_sound first_cap
