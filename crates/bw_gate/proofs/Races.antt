-- What take and regrade have found by their raced tries.
use Rattle.std.proofs.Common.{◌≡◌, ℕ, List, [], ◌∷◌, ◌++◌, All, refl, sym, ap, ◌∙◌, subst}
use Rattle.std.proofs.lemmas.List.{append-nil, append_assoc}
use Rattle.std.proofs.lemmas.List.Elements.{All-nil, All-push}
use Rattle.bw_gate.specs.declared.answer.Take.{Take}
use Rattle.bw_gate.specs.declared.answer.Regrade.{Regrade}
use Rattle.bw_gate.specs.declared.answer.Limit.{Limit}
use Rattle.bw_gate.specs.declared.view.Found.{Found}
use Rattle.bw_gate.specs.Pieces.{GateId, BlankView, TicketView, found_in}
use Rattle.bw_gate.specs.Answers.{blank_found, ticket_found, Race, words_of, IsRaceOfTake, IsRaceOfRegrade, IsTakeRaced, IsRegradeRaced, IsTryOfTake, IsTryOfRegrade, IsTakeDecided, IsRegradeDecided, IsTake, IsRegrade, IsRaceOfLimit, IsLimitRaced, IsTryOfLimit, IsLimitDecided, IsLimited}

words_push : (races : List Race) (race : Race) → words_of (races ++ race ∷ []) ≡ words_of races ++ race.expected ∷ race.seen ∷ []
words_push [] race = refl
words_push (r ∷ races) race = ap (λ ws. r.expected ∷ r.seen ∷ ws) (words_push races race)

in_more : (d : ℕ) (ws vs : List ℕ) → found_in d (ws ++ vs) ≡ found_in d ws ++ found_in d vs
in_more d [] vs = refl
in_more d (w ∷ ws) vs = ap (λ (fs : List Found). record { domain = d; word = w } ∷ fs) (in_more d ws vs)

found_more : (found : List Found) (d : ℕ) (races : List Race) (race : Race) → (found ++ found_in d (words_of races)) ++ found_in d (race.expected ∷ race.seen ∷ []) ≡ found ++ found_in d (words_of (races ++ race ∷ []))
found_more found d races race =
    append_assoc found (found_in d (words_of races)) (found_in d (race.expected ∷ race.seen ∷ []))
    ∙ ap (λ (fs : List Found). found ++ fs) (sym (in_more d (words_of races) (race.expected ∷ race.seen ∷ [])) ∙ ap (found_in d) (sym (words_push races race)))

-- a blank, after some raced tries to take
pub record HasRaced (b : BlankView) (d bw : ℕ) (c : BlankView) : Type 0 where
  pub races : List Race
  pub raced : All (IsRaceOfTake b.gate d bw) races
  pub blank : c ≡ blank_found b d (words_of races)

pub not_yet_raced : (b : BlankView) (d bw : ℕ) → HasRaced b d bw b
not_yet_raced b d bw = record {
  races = [];
  raced = All-nil (IsRaceOfTake b.gate d bw);
  blank = ap (λ ws. record { gate = b.gate; found = ws }) (sym (append-nil b.found));
}

pub raced_again : (b : BlankView) (d bw : ℕ) (c e : BlankView) (race : Race) → HasRaced b d bw c → IsTakeRaced c d bw e race → HasRaced b d bw e
raced_again b d bw c e race before h = record {
  races = before.races ++ race ∷ [];
  raced = All-push (IsRaceOfTake b.gate d bw) before.races race before.raced (subst (λ (g : GateId). IsRaceOfTake g d bw race) (ap (λ (x : BlankView). x.gate) before.blank) h.raced);
  blank =
      h.blank ∙ ap (λ (x : BlankView). blank_found x d (race.expected ∷ race.seen ∷ [])) before.blank
      ∙ ap (λ ws. record { gate = b.gate; found = ws }) (found_more b.found d before.races race);
}

pub take_decided : (b : BlankView) (d bw : ℕ) (c : BlankView) (answer : Take) → HasRaced b d bw c → IsTryOfTake c d bw answer → IsTakeDecided answer → IsTake b d bw answer
take_decided b d bw c answer before last decided = record {
  races = before.races;
  raced = before.raced;
  last = subst (λ (x : BlankView). IsTryOfTake x d bw answer) before.blank last;
  decided = decided;
}

-- a ticket, after some raced tries to regrade it
pub record HasRacedToChange (t : TicketView) (bw : ℕ) (u : TicketView) : Type 0 where
  pub races : List Race
  pub raced : All (IsRaceOfRegrade t bw) races
  pub ticket : u ≡ ticket_found t (words_of races)

abbrev with_words : TicketView → List Found → TicketView
with_words t ws = record { gate = t.gate; domain = t.domain; bw = t.bw; found = ws }

pub not_yet_changed : (t : TicketView) (bw : ℕ) → HasRacedToChange t bw t
not_yet_changed t bw = record {
  races = [];
  raced = All-nil (IsRaceOfRegrade t bw);
  ticket = ap (with_words t) (sym (append-nil t.found));
}

pub changes_again : (t : TicketView) (bw : ℕ) (u w : TicketView) (race : Race) → HasRacedToChange t bw u → IsRegradeRaced u bw w race → HasRacedToChange t bw w
changes_again t bw u w race before h = record {
  races = before.races ++ race ∷ [];
  raced = All-push (IsRaceOfRegrade t bw) before.races race before.raced (let r = subst (λ (x : TicketView). IsRaceOfRegrade x bw race) before.ticket h.raced in record { word = r.word; held = r.held; room = r.room; other = r.other; other_word = r.other_word });
  ticket =
      h.ticket ∙ ap (λ (x : TicketView). ticket_found x (race.expected ∷ race.seen ∷ [])) before.ticket
      ∙ ap (with_words t) (found_more t.found t.domain before.races race);
}

pub regrade_decided : (t : TicketView) (bw : ℕ) (u : TicketView) (answer : Regrade) → HasRacedToChange t bw u → IsTryOfRegrade u bw answer → IsRegradeDecided answer → IsRegrade t bw answer
regrade_decided t bw u answer before last decided = record {
  races = before.races;
  raced = before.raced;
  last = subst (λ (x : TicketView). IsTryOfRegrade x bw answer) before.ticket last;
  decided = decided;
}

-- a blank, after some raced tries to set a limit
pub record HasRacedToLimit (b : BlankView) (d limit : ℕ) (c : BlankView) : Type 0 where
  pub races : List Race
  pub raced : All (IsRaceOfLimit b.gate d limit) races
  pub blank : c ≡ blank_found b d (words_of races)

pub not_yet_set : (b : BlankView) (d limit : ℕ) → HasRacedToLimit b d limit b
not_yet_set b d limit = record {
  races = [];
  raced = All-nil (IsRaceOfLimit b.gate d limit);
  blank = ap (λ ws. record { gate = b.gate; found = ws }) (sym (append-nil b.found));
}

pub limits_again : (b : BlankView) (d limit : ℕ) (c e : BlankView) (race : Race) → HasRacedToLimit b d limit c → IsLimitRaced c d limit e race → HasRacedToLimit b d limit e
limits_again b d limit c e race before h = record {
  races = before.races ++ race ∷ [];
  raced = All-push (IsRaceOfLimit b.gate d limit) before.races race before.raced (subst (λ (g : GateId). IsRaceOfLimit g d limit race) (ap (λ (x : BlankView). x.gate) before.blank) h.raced);
  blank =
      h.blank ∙ ap (λ (x : BlankView). blank_found x d (race.expected ∷ race.seen ∷ [])) before.blank
      ∙ ap (λ ws. record { gate = b.gate; found = ws }) (found_more b.found d before.races race);
}

pub limit_decided : (b : BlankView) (d limit : ℕ) (c : BlankView) (answer : Limit) → HasRacedToLimit b d limit c → IsTryOfLimit c d limit answer → IsLimitDecided answer → IsLimited b d limit answer
limit_decided b d limit c answer before last decided = record {
  races = before.races;
  raced = before.raced;
  last = subst (λ (x : BlankView). IsTryOfLimit x d limit answer) before.blank last;
  decided = decided;
}
