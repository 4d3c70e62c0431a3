-- What the parts of a session are, step by step.
use Rattle.std.proofs.Common.{◌≡◌, ◌≢◌, ℕ, zero, suc, ◌+◌, ◌-◌, ◌*◌, ◌≤◌, ◌<◌, Bool, true, false, eqb, List, [], ◌∷◌, ◌++◌, length, map, set, replicate, get_or, Option, Some, None, All, refl, sym, ap, subst, ◌∙◌, arith}
use Rattle.std.specs.Prelude.{IfSome, is_some, slice_get}
use Rattle.std.specs.List.{range_with_len}
use Rattle.std.specs.Option.{option_map}
use Rattle.std.proofs.lemmas.Bool.{eqb-true, eqb-false}
use Rattle.std.proofs.lemmas.List.{get_or-map, get_or-set_same, get_or-set_other, get_or_append_left, get_or_push, map-set, length-map, length-replicate, length-set, length_push, map_push}
use Rattle.std.proofs.lemmas.List.Elements.{All-nil, All-cons, All-head, All-tail, All-map, All-same, All-weaker}
use Rattle.std.proofs.lemmas.List.FromFn.{length-range_with_len}
use Rattle.std.proofs.lemmas.Option.{get_or_from_slice_get, slice_get-map, slice_get_read}
use Rattle.std.proofs.Math.Seq.{map-set_same}
use Rattle.atomic_table.specs.Seated.{TableId}
use Rattle.pass_seats.specs.Lists.{PassView}
use Rattle.bw_gate.specs.Pieces.{GateId}
use Rattle.bw_gate.specs.Word.{IsLimit}
use Rattle.bw_gate.specs.declared.terms.Room.{Room}
use Rattle.bw_gate.specs.Terms.{TermsView, IsMachine, AreTerms, AreRooms, terms_of as gate_terms}
use Rattle.domain_run.specs.Domain.{IsCpus}
use Rattle.calls_text.specs.declared.section.Entry.{Entry}
use Rattle.call_book.specs.Book.{BookView, IsMember}
use Rattle.run_options.specs.declared.options.Options.{Options}
use Rattle.session.specs.declared.parts.Hand.{Hand}
use Rattle.run_options.specs.Options.{AreOptions}
use Rattle.session.specs.Options.{gate_terms_of}
use Rattle.session.specs.SessionId.{SessionId, IsSession, cpu_sets_from, spine_of}
use Rattle.session.specs.Asks.{ClientView}
use Rattle.session.specs.Clients.{IsNew, IsNotThere, IsGivenOut}
use Rattle.session.specs.private.Entering.{IsSessionBook, IsClientOf}
use Rattle.session.specs.private.Parts.{new_passes, IsHand, AreHands, HaveRoom, AreNewPasses, AreBooks, AreSessionBooks, id_of}

-- ---- the CPUs

pub range_push : (a n c : ℕ) → a + n ≡ c → range_with_len a (suc n) ≡ range_with_len a n ++ c ∷ []
range_push a zero c e = ap (λ (x : ℕ). x ∷ []) (omega (arith, e))
range_push a (suc n) c e = ap (λ (xs : List ℕ). a ∷ xs) (range_push (a + 1) n c (omega (arith, e)))

pub range_more : (set : List ℕ) (base cpu : ℕ) → base ≤ cpu → set ≡ range_with_len base (cpu - base) → set ++ cpu ∷ [] ≡ range_with_len base (cpu + 1 - base)
range_more set base cpu below made =
    let more : suc (cpu - base) ≡ cpu + 1 - base = omega arith in
    ap (λ (xs : List ℕ). xs ++ cpu ∷ []) made ∙ sym (range_push base (cpu - base) cpu (omega arith)) ∙ ap (range_with_len base) more

pub length_sets : (base : ℕ) (domains : List ℕ) → length (cpu_sets_from base domains) ≡ length domains
length_sets base [] = refl
length_sets base (cpus ∷ domains) = ap suc (length_sets (base + cpus) domains)

pub length_set : (base : ℕ) (domains : List ℕ) (d : ℕ) → d < length domains → length (get_or (cpu_sets_from base domains) d []) ≡ get_or domains d 0
length_set base [] d inside = absurd (omega (arith, inside))
length_set base (cpus ∷ domains) zero inside = length-range_with_len base cpus
length_set base (cpus ∷ domains) (suc d) inside = length_set (base + cpus) domains d (omega (arith, inside))

all_sets : (P : ℕ → Type 0) (base : ℕ) (domains : List ℕ) → All P domains → All (λ (cpus : List ℕ). P (length cpus)) (cpu_sets_from base domains)
all_sets P base [] all = All-nil (λ (cpus : List ℕ). P (length cpus))
all_sets P base (cpus ∷ domains) all =
    All-cons (λ (cpus : List ℕ). P (length cpus)) (range_with_len base cpus) (cpu_sets_from (base + cpus) domains)
    (subst P (sym (length-range_with_len base cpus)) (All-head P cpus domains all))
    (all_sets P (base + cpus) domains (All-tail P cpus domains all))

-- ---- the gate

abbrev pub room_of : ℕ → ℕ → Room
room_of limit cpus = record { cpus = cpus; limit = limit }

cpus_are : (limit : ℕ) (domains : List ℕ) → map (λ (r : Room). r.cpus) (map (room_of limit) domains) ≡ domains
cpus_are limit [] = refl
cpus_are limit (cpus ∷ domains) = ap (λ (ns : List ℕ). cpus ∷ ns) (cpus_are limit domains)

limits_are : (limit : ℕ) (domains : List ℕ) → map (λ (r : Room). r.limit) (map (room_of limit) domains) ≡ replicate (length domains) limit
limits_are limit [] = refl
limits_are limit (cpus ∷ domains) = ap (λ (ns : List ℕ). limit ∷ ns) (limits_are limit domains)

abbrev terms_with : List ℕ → List ℕ → ℕ → TermsView
terms_with cpus limits pieces = record { cpus = cpus; limits = limits; pieces = pieces }

pub terms_are : (o : Options) (rooms : List Room) (n : ℕ) → rooms ≡ map (room_of o.limit) o.domains.items → n ≡ length o.domains.items → gate_terms rooms (n * 256 + o.clients) ≡ gate_terms_of o
terms_are o rooms n are count =
    ap (λ (rs : List Room). gate_terms rs (n * 256 + o.clients)) are
    ∙ ap (λ (ns : List ℕ). terms_with ns (map (λ (r : Room). r.limit) (map (room_of o.limit) o.domains.items)) (n * 256 + o.clients)) (cpus_are o.limit o.domains.items)
    ∙ ap (λ (ns : List ℕ). terms_with o.domains.items ns (n * 256 + o.clients)) (limits_are o.limit o.domains.items)
    ∙ ap (λ (k : ℕ). terms_with o.domains.items (replicate (length o.domains.items) o.limit) (k * 256 + o.clients)) count

pub are_rooms : (o : Options) (rooms : List Room) → AreOptions o → rooms ≡ map (room_of o.limit) o.domains.items
    → AreRooms rooms (length o.domains.items * 256 + o.clients)
are_rooms o rooms are is = record {
  terms =
      subst AreTerms (sym (terms_are o rooms (length o.domains.items) is refl))
      (record {
        some = are.some_domains;
        few = are.few_domains;
        small = All-weaker IsCpus IsMachine (λ cpus h. let some = h.0 in record { one = omega (arith, some); most = h.1 }) o.domains.items are.cpus;
        a_piece = omega (arith, are.a_client);
        not_many = omega (arith, are.few_domains, are.few_clients);
      });
  limits =
      All-same (λ (r : Room). IsLimit r.limit) rooms (map (room_of o.limit) o.domains.items) is
      (All-map (λ (r : Room). IsLimit r.limit) (room_of o.limit) o.domains.items
      (All-weaker IsCpus (λ (cpus : ℕ). IsLimit o.limit) (λ cpus h. record { least = are.limit.0; most = are.limit.1 }) o.domains.items are.cpus));
}

-- ---- lists of what may be there

pub some_both : {X : Type 0} (o : Option X) (P Q R : X → Type 0) → ((x : X) → P x → Q x → R x) → IfSome o P → IfSome o Q → IfSome o R
some_both None P Q R f p q = tt
some_both (Some x) P Q R f p q = f x p q

module _ {X : Type 0} where
  set_at : (P : ℕ → X → Type 0) (xs : List (Option X)) (k i : ℕ) (y z : Option X) (b : Bool) → eqb i k ≡ b → k < length xs → IfSome y (P k)
      → (i ≢ k → IfSome (get_or xs i z) (P i)) → IfSome (get_or (set xs k y) i z) (P i)
  set_at P xs k i y z true e inside new old =
      subst (λ (j : ℕ). IfSome (get_or (set xs k y) j z) (P j)) (sym (eqb-true i k e)) (subst (λ (o : Option X). IfSome o (P k)) (sym (get_or-set_same xs k y z inside)) new)
  set_at P xs k i y z false e inside new old =
      let other : i ≢ k = eqb-false i k e in
      subst (λ (o : Option X). IfSome o (P i)) (sym (get_or-set_other xs k i y z other)) (old other)

  -- what holds at a place of a list of which one element was replaced
  pub some_set : (P : ℕ → X → Type 0) (xs : List (Option X)) (k i : ℕ) (y z : Option X) → k < length xs → IfSome y (P k)
      → (i ≢ k → IfSome (get_or xs i z) (P i)) → IfSome (get_or (set xs k y) i z) (P i)
  some_set P xs k i y z inside new old = set_at P xs k i y z (eqb i k) refl inside new old

  push_at : (P : ℕ → X → Type 0) (xs : List (Option X)) (k i : ℕ) (y z : Option X) (b : Bool) → eqb i k ≡ b → length xs ≡ k → i ≤ k → IfSome y (P k)
      → (i < length xs → IfSome (get_or xs i z) (P i)) → IfSome (get_or (xs ++ y ∷ []) i z) (P i)
  push_at P xs k i y z true e count upto new old =
      subst (λ (j : ℕ). IfSome (get_or (xs ++ y ∷ []) j z) (P j)) (sym (eqb-true i k e)) (subst (λ (o : Option X). IfSome o (P k)) (sym (get_or_push xs y z k count)) new)
  push_at P xs k i y z false e count upto new old =
      let other : i ≢ k = eqb-false i k e in
      let front : i < length xs = omega (arith, other, count, upto) in
      subst (λ (o : Option X). IfSome o (P i)) (sym (get_or_append_left xs (y ∷ []) z i front)) (old front)

  -- and of a list to which one was added
  pub some_push : (P : ℕ → X → Type 0) (xs : List (Option X)) (k i : ℕ) (y z : Option X) → length xs ≡ k → i < length (xs ++ y ∷ []) → IfSome y (P k)
      → (i < length xs → IfSome (get_or xs i z) (P i)) → IfSome (get_or (xs ++ y ∷ []) i z) (P i)
  some_push P xs k i y z count inside new old =
      let upto : i ≤ k = omega (arith, inside, length_push xs y, count) in
      push_at P xs k i y z (eqb i k) refl count upto new old

  each_at : (P : ℕ → X → Type 0) (xs : List X) (k i : ℕ) (y z : X) (b : Bool) → eqb i k ≡ b → length xs ≡ k → i ≤ k → P k y
      → (i < length xs → P i (get_or xs i z)) → P i (get_or (xs ++ y ∷ []) i z)
  each_at P xs k i y z true e count upto new old =
      subst (λ (j : ℕ). P j (get_or (xs ++ y ∷ []) j z)) (sym (eqb-true i k e)) (subst (P k) (sym (get_or_push xs y z k count)) new)
  each_at P xs k i y z false e count upto new old =
      let other : i ≢ k = eqb-false i k e in
      let front : i < length xs = omega (arith, other, count, upto) in
      subst (P i) (sym (get_or_append_left xs (y ∷ []) z i front)) (old front)

  pub each_push : (P : ℕ → X → Type 0) (xs : List X) (k i : ℕ) (y z : X) → length xs ≡ k → i < length (xs ++ y ∷ []) → P k y
      → (i < length xs → P i (get_or xs i z)) → P i (get_or (xs ++ y ∷ []) i z)
  each_push P xs k i y z count inside new old =
      let upto : i ≤ k = omega (arith, inside, length_push xs y, count) in
      each_at P xs k i y z (eqb i k) refl count upto new old

-- ---- hands

-- the place of the last pass, and what it is
pub last_new : (spine : TableId) (passes left : List (PassView Entry)) (p : PassView Entry) → passes ≡ left ++ p ∷ [] → AreNewPasses spine passes
    → p ≡ record { spine = spine; client = length left + 1; entries = [] }
last_new spine passes left p is new =
    let inside : length left < length passes = omega (arith, ap length is, length_push left p) in
    sym (ap (λ (ps : List (PassView Entry)). get_or ps (length left) p) is ∙ get_or_push left p p (length left) refl) ∙ new (length left) p inside

pub front_new : (spine : TableId) (passes left : List (PassView Entry)) (p : PassView Entry) → passes ≡ left ++ p ∷ [] → AreNewPasses spine passes → AreNewPasses spine left
front_new spine passes left p is new k x inside =
    let there : k < length passes = omega (arith, ap length is, length_push left p, inside) in
    sym (ap (λ (ps : List (PassView Entry)). get_or ps k x) is ∙ get_or_append_left left (p ∷ []) x k inside) ∙ new k x there

-- a hand with its pass of one book more
pub hand_more : (gate : GateId) (spines : List TableId) (spine : TableId) (i : ℕ) (h g : Hand) (p : PassView Entry) → IsHand gate spines i h
    → p ≡ record { spine = spine; client = i; entries = [] } → g.passes.items ≡ h.passes.items ++ p ∷ [] → g.blank ≡ h.blank → IsHand gate (spines ++ spine ∷ []) i g
hand_more gate spines spine i h g p is new items blank = record {
  passes =
      let one : TableId → PassView Entry = λ s. record { spine = s; client = i; entries = [] } in
      items ∙ ap (λ (ps : List (PassView Entry)). ps ++ p ∷ []) is.passes ∙ ap (λ (q : PassView Entry). map one spines ++ q ∷ []) new ∙ sym (map_push one spines spine);
  own = subst (λ (o : _). IfSome o (λ b. b.gate ≡ gate)) (sym blank) is.own;
}

-- a hand, where there is one, gets a pass
abbrev pub Gets : Option Hand → Option Hand → PassView Entry → Type 0
Gets None None p = Unit {0}
Gets (Some h) (Some g) p = (g.passes.items ≡ h.passes.items ++ p ∷ []) × (h.passes.cap ≤ g.passes.cap) × (g.blank ≡ h.blank)
Gets _ _ p = ⊥

gets_some : (z y : Option Hand) (p : PassView Entry) → Gets z y p → is_some y ≡ is_some z
gets_some None None p g = refl
gets_some None (Some y) p g = absurd g
gets_some (Some z) None p g = absurd g
gets_some (Some z) (Some y) p g = refl

gets_room : (z y : Option Hand) (p : PassView Entry) (n : ℕ) → Gets z y p → IfSome z (λ h. n ≤ h.passes.cap) → IfSome y (λ h. n ≤ h.passes.cap)
gets_room None None p n g room = tt
gets_room None (Some y) p n g room = absurd g
gets_room (Some z) None p n g room = absurd g
gets_room (Some z) (Some y) p n g room = omega (arith, g.1, room)

gets_hand : (gate : GateId) (spines : List TableId) (spine : TableId) (i : ℕ) (z y : Option Hand) (p : PassView Entry) → Gets z y p → p ≡ record { spine = spine; client = i; entries = [] }
    → IfSome z (IsHand gate spines i) → IfSome y (IsHand gate (spines ++ spine ∷ []) i)
gets_hand gate spines spine i None None p g new is = tt
gets_hand gate spines spine i None (Some y) p g new is = absurd g
gets_hand gate spines spine i (Some z) None p g new is = absurd g
gets_hand gate spines spine i (Some z) (Some y) p g new is = hand_more gate spines spine i z y p is new g.0 g.2

-- while a book's passes are dealt, from the last on: the hands of the passes that are left are as
-- they were, and the others have theirs
pub record Dealing (was hands : List (Option Hand)) (all left : List (PassView Entry)) : Type 0 where
  pub count : length hands ≡ length was
  pub few : length left ≤ length hands
  pub some : map is_some hands ≡ map is_some was
  pub room : (n : ℕ) → HaveRoom n was → HaveRoom n hands
  pub free : (i : ℕ) (x : Option Hand) → i < length left → IfSome (get_or hands i x) (λ h. length h.passes.items < h.passes.cap)
  pub passes : (spine : TableId) → AreNewPasses spine all → AreNewPasses spine left
  pub waiting : (gate : GateId) (spines : List TableId) → AreHands gate spines was
      → (i : ℕ) (x : Option Hand) → i < length left → IfSome (get_or hands i x) (IsHand gate spines (i + 1))
  pub dealt : (gate : GateId) (spines : List TableId) (spine : TableId) → AreHands gate spines was → AreNewPasses spine all
      → (i : ℕ) (x : Option Hand) → length left ≤ i → i < length hands → IfSome (get_or hands i x) (IsHand gate (spines ++ spine ∷ []) (i + 1))

pub dealing_more : (was hands : List (Option Hand)) (all passes left : List (PassView Entry)) (p : PassView Entry) (k : ℕ) (z y : Option Hand)
    → passes ≡ left ++ p ∷ [] → k ≡ length left → z ≡ get_or hands k z → Gets z y p → Dealing was hands all passes → Dealing was (set hands k y) all left
dealing_more was hands all passes left p k z y is last at gets d =
    let one : length passes ≡ length left + 1 = ap length is ∙ length_push left p in
    let inside : k < length hands = omega (arith, one, last, d.few) in
    let same : length (set hands k y) ≡ length hands = length-set hands k y in
    record {
      count = same ∙ d.count;
      few = omega (arith, same, one, d.few);
      some = map-set_same is_some hands k y z (gets_some z y p gets ∙ ap is_some at) ∙ d.some;
      room = λ n wide i x there.
          let there' : i < length hands = omega (arith, there, same) in
          some_set (λ j h. n ≤ h.passes.cap) hands k i y x inside
          (gets_room z y p n gets (subst (λ (o : Option Hand). IfSome o (λ h. n ≤ h.passes.cap)) (sym at) (d.room n wide k z inside)))
          (λ other. d.room n wide i x there');
      free = λ i x there.
          let other : i ≢ k = λ e. absurd (omega (arith, e, there, last)) in
          subst (λ (o : Option Hand). IfSome o (λ h. length h.passes.items < h.passes.cap)) (sym (get_or-set_other hands k i y x other)) (d.free i x (omega (arith, there, one)));
      passes = λ spine new. front_new spine passes left p is (d.passes spine new);
      waiting = λ gate spines are i x there.
          let other : i ≢ k = λ e. absurd (omega (arith, e, there, last)) in
          subst (λ (o : Option Hand). IfSome o (IsHand gate spines (i + 1))) (sym (get_or-set_other hands k i y x other)) (d.waiting gate spines are i x (omega (arith, there, one)));
      dealt = λ gate spines spine are new i x above there.
          let there' : i < length hands = omega (arith, there, same) in
          let client : length left + 1 ≡ k + 1 = omega (arith, last) in
          let mine : p ≡ record { spine = spine; client = k + 1; entries = [] } =
          last_new spine passes left p is (d.passes spine new) ∙ ap (λ (n : ℕ). record { spine = spine; client = n; entries = [] }) client in
          some_set (λ j h. IsHand gate (spines ++ spine ∷ []) (j + 1) h) hands k i y x inside
          (gets_hand gate spines spine (k + 1) z y p gets mine (subst (λ (o : Option Hand). IfSome o (IsHand gate spines (k + 1))) (sym at) (d.waiting gate spines are k z (omega (arith, one, last)))))
          (λ other. d.dealt gate spines spine are new i x (omega (arith, one, last, above, other)) there');
    }

pub count_hands : (hands : List (Option Hand)) (n : ℕ) → map is_some hands ≡ replicate n true → length hands ≡ n
count_hands hands n some = sym (length-map hands is_some) ∙ ap length some ∙ length-replicate n true

-- the hands have their passes of the books so far, and room for more
pub room_for_one : (gate : GateId) (spines : List TableId) (n i : ℕ) (o : Option Hand) → length spines < n → IfSome o (IsHand gate spines i) → IfSome o (λ h. n ≤ h.passes.cap)
    → IfSome o (λ h. length h.passes.items < h.passes.cap)
room_for_one gate spines n i o less are room =
    some_both o (IsHand gate spines i) (λ h. n ≤ h.passes.cap) (λ h. length h.passes.items < h.passes.cap)
    (λ h is wide. let count : length h.passes.items ≡ length spines = ap length is.passes ∙ length-map spines _ in omega (arith, count, less, wide)) are room

-- ---- books

pub new_passes_are : (spine : TableId) (clients : ℕ) (passes : List (PassView Entry)) → length passes ≡ clients
    → ((k : ℕ) → k < clients → slice_get passes k ≡ Some (record { spine = spine; client = k + 1; entries = [] })) → AreNewPasses spine passes
new_passes_are spine clients passes count are k x inside =
    get_or_from_slice_get passes k (record { spine = spine; client = k + 1; entries = [] }) x (are k (omega (arith, inside, count)))

-- ---- the session

pub is_session : (o : Options) (gate : GateId) (books : List BookView) (sets : List (List ℕ)) (clients : ℕ) → AreOptions o → gate.terms ≡ gate_terms_of o
    → sets ≡ cpu_sets_from 0 o.domains.items → length books ≡ length o.domains.items → clients ≡ o.clients → IsSession (id_of gate books sets o.limit clients o.history o.workers)
is_session o gate books sets clients are terms is count number =
    let domains = o.domains.items in
    let sets_count : length sets ≡ length domains = ap length is ∙ length_sets 0 domains in
    let machines_are : gate.terms.cpus ≡ domains = ap (λ (t : TermsView). t.cpus) terms in
    record {
      some = omega (arith, sets_count, are.some_domains);
      few = omega (arith, sets_count, are.few_domains);
      some_cpus = All-same (λ (cpus : List ℕ). 0 < length cpus) sets (cpu_sets_from 0 domains) is
          (all_sets (λ (n : ℕ). 0 < n) 0 domains (All-weaker IsCpus (λ (n : ℕ). 0 < n) (λ n h. h.0) domains are.cpus));
      most_cpus = All-same (λ (cpus : List ℕ). length cpus ≤ 64) sets (cpu_sets_from 0 domains) is
          (all_sets (λ (n : ℕ). n ≤ 64) 0 domains (All-weaker IsCpus (λ (n : ℕ). n ≤ 64) (λ n h. h.1) domains are.cpus));
      limit = are.limit;
      clients = omega (arith, number, are.few_clients);
      books = length-map books _ ∙ count ∙ sym sets_count;
      words = ap length machines_are ∙ sym sets_count;
      machines = λ d place.
          let inside : d < length domains = omega (arith, place, sets_count) in
          ap (λ (cs : List ℕ). get_or cs d 0) machines_are
          ∙ sym (ap (λ (ss : List (List ℕ)). length (get_or ss d [])) is ∙ length_set 0 domains d inside);
    }

pub are_named : (o : Options) (gate : GateId) (books : List BookView) (sets : List (List ℕ)) (clients : ℕ)
    → sets ≡ cpu_sets_from 0 o.domains.items → length books ≡ length o.domains.items → clients ≡ o.clients → AreBooks gate o.domains.items o.limit o.clients o.history o.workers books
    → AreSessionBooks (id_of gate books sets o.limit clients o.history o.workers) books
are_named o gate books sets clients is count number are d x inside =
    let here : d < length o.domains.items = omega (arith, inside, count) in
    let b = are d x inside in
    record {
      gate = b.of_gate;
      domain = b.of_domain;
      spine = sym (get_or-map (λ (y : BookView). y.spine) books d x gate.table inside);
      cpus = b.has_cpus ∙ sym (ap (λ (ss : List (List ℕ)). length (get_or ss d [])) is ∙ length_set 0 o.domains.items d here);
      limit = b.has_limit;
      clients = b.has_clients ∙ sym number;
      room = b.has_room;
      workers = b.has_workers;
      place = omega (arith, here, ap length is, length_sets 0 o.domains.items);
    }

-- ---- the books after their locks

pub one_more : (books left : List BookView) (b : BookView) → books ≡ left ++ b ∷ [] → length books ≡ length left + 1
one_more books left b is = ap length is ∙ length_push left b

-- the last of the books of the first domains
pub last_named : (id : SessionId) (books left : List BookView) (b : BookView) (d : ℕ) → books ≡ left ++ b ∷ [] → length left ≡ d → AreSessionBooks id books → IsSessionBook id d b
last_named id books left b d is count named =
    let inside : length left < length books = omega (arith, one_more books left b is) in
    subst (λ (n : ℕ). IsSessionBook id n b) count
    (subst (IsSessionBook id (length left)) (ap (λ (bs : List BookView). get_or bs (length left) b) is ∙ get_or_push left b b (length left) refl) (named (length left) b inside))

pub front_named : (id : SessionId) (books left : List BookView) (b : BookView) → books ≡ left ++ b ∷ [] → AreSessionBooks id books → AreSessionBooks id left
front_named id books left b is named d x inside =
    let there : d < length books = omega (arith, one_more books left b is, inside) in
    subst (IsSessionBook id d) (ap (λ (bs : List BookView). get_or bs d x) is ∙ get_or_append_left left (b ∷ []) x d inside) (named d x there)

-- ---- a client

pub is_client : (id : SessionId) (number : ℕ) (h : Hand) → IsSession id → IsMember id.clients number → IsHand id.gate id.spines number h → IsClientOf id number h.passes.items h.blank
is_client id number h s member is =
    let new : TableId → PassView Entry = λ t. record { spine = t; client = number; entries = [] } in
    let count : length h.passes.items ≡ length id.spines = ap length is.passes ∙ length-map id.spines new in
    record {
      member = member;
      count = count ∙ s.books;
      each = λ d x inside.
          let there : d < length id.spines = omega (arith, inside, count) in
          let at : get_or h.passes.items d x ≡ new (spine_of id d) = ap (λ (ps : List (PassView Entry)). get_or ps d x) is.passes ∙ get_or-map new id.spines d id.gate.table x there in
          record { spine = ap (λ (p : PassView Entry). p.spine) at; owner = ap (λ (p : PassView Entry). p.client) at };
      own = is.own;
    }

no_entries : (spines : List TableId) (number : ℕ) → map (λ (p : PassView Entry). p.entries) (new_passes spines number) ≡ replicate (length spines) []
no_entries [] number = refl
no_entries (spine ∷ spines) number = ap (λ (es : List (List Entry)). [] ∷ es) (no_entries spines number)

pub is_new : (id : SessionId) (number : ℕ) (h : Hand) → IsSession id → IsHand id.gate id.spines number h → map (λ (p : PassView Entry). p.entries) h.passes.items ≡ replicate (length id.cpu_sets) []
is_new id number h s is =
    ap (map (λ (p : PassView Entry). p.entries)) is.passes ∙ no_entries id.spines number ∙ ap (λ (n : ℕ). replicate n []) s.books

-- ---- the clients that wait

-- whether the client of a place waits
waits_at : (hands : List (Option Hand)) (k : ℕ) (z : Option Hand) → k < length hands → z ≡ get_or hands k z → slice_get (map is_some hands) k ≡ Some (is_some z)
waits_at hands k z inside at = slice_get-map is_some hands k ∙ ap (option_map is_some) (slice_get_read hands (length hands) k z refl inside at)

-- the place of a number
waits_for : (hands : List (Option Hand)) (waiting : List Bool) (k number : ℕ) (z : Option Hand) → k < length hands → z ≡ get_or hands k z → map is_some hands ≡ waiting → k ≡ number - 1
    → slice_get waiting (number - 1) ≡ Some (is_some z)
waits_for hands waiting k number z inside at view place =
    sym (ap (λ (ws : List Bool). slice_get ws (number - 1)) view) ∙ ap (slice_get (map is_some hands)) (sym place) ∙ waits_at hands k z inside at

pub not_there : (hands : List (Option Hand)) (waiting : List Bool) (k number : ℕ) (z y : Option Hand) → k < length hands → z ≡ get_or hands k z → map is_some hands ≡ waiting → k ≡ number - 1
    → None ≡ z → y ≡ None → IsNotThere waiting (map is_some (set hands k y)) number
not_there hands waiting k number z y inside at view place none empty =
    let waits = waits_for hands waiting k number z inside at view place in
    record {
      absent = λ _ e.
          let wrong : Some false ≡ Some true = ap (λ (o : Option Hand). Some (is_some o)) none ∙ sym waits ∙ e in
          absurd (cc wrong);
      same = map-set_same is_some hands k y z (ap is_some (empty ∙ none) ∙ ap is_some at) ∙ view;
    }

pub given_out : (id : SessionId) (hands : List (Option Hand)) (waiting : List Bool) (k number : ℕ) (z y : Option Hand) (h : Hand) (client : ClientView)
    → k < length hands → z ≡ get_or hands k z → map is_some hands ≡ waiting → k ≡ number - 1
    → 0 < number → Some h ≡ z → y ≡ None → IsNew id number client → IsGivenOut id waiting (map is_some (set hands k y)) number client
given_out id hands waiting k number z y h client inside at view place some there empty new =
    record {
      some = some;
      waits = waits_for hands waiting k number z inside at view place ∙ sym (ap (λ (o : Option Hand). Some (is_some o)) there);
      others = map-set is_some hands k y ∙ ap (λ (ws : List Bool). set ws k (is_some y)) view ∙ ap (λ (n : ℕ). set waiting n (is_some y)) place ∙ ap (λ (o : Option Hand). set waiting (number - 1) (is_some o)) empty;
      new = new;
    }
