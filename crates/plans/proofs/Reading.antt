-- The reader's loop: what holds after the records before a place.
use Rattle.std.proofs.Common.{◌≡◌, ℕ, ◌+◌, ◌*◌, ◌<◌, ◌≤◌, true, false, eqb, leb, List, [], ◌∷◌, ◌++◌, length, get_or, Some, Err, sym, ap, ◌∙◌, subst, arith, below_more}
use Rattle.limits.specs.declared.fault.Fault.{Fault}
use Rattle.limits.specs.declared.refusal.Refusal.TheVariants.{RecordForm}
use Rattle.plans.proofs.Bodies.{check_body}
use Rattle.plans.proofs.Growth.{grown_records, grown_valid}
use Rattle.plans.proofs.Words.{read_back}
use Rattle.plans.specs.Faults.{FirstRecord, InOrder, check, count_of, head_form, plan_fault_of, records, sized}
use Rattle.plans.specs.Plans.{body_records, encoding, head_record, plan_records, valid, valid_servers}
use Rattle.plans.specs.Records.{record_at, record_bytes}
use Rattle.plans.specs.Steps.{ReadServers, Taken, Took, check_after, entry_record}
use Rattle.limits.specs.declared.fault.ReadError.{ReadError}
use Rattle.limits.specs.declared.fault.ReadError.TheVariants.{Fault as AtFault, NoMemory}
use Rattle.plans.specs.declared.record.Record.{Record}
use Rattle.plans.specs.declared.server.Server.{Server}
use Rattle.std.proofs.lemmas.List.FromFn.{length-map-range_with_len, map-range_with_len_more}
use Rattle.std.proofs.lemmas.Bool.{and_from, and_parts, cond-true, eqb-true, le-leb, leb-true, not_from_false}
use Rattle.std.specs.List.{flat_map}

-- the records before the place are in order, and those after the head are the servers'
pub record Reading (bytes : List ℕ) (place : ℕ) (ss : List Server) : Type 0 where
  pub front : records bytes place ≡ record_at bytes 0 ∷ body_records ss
  pub clean : InOrder bytes place
  pub sound : valid_servers ss ≡ true
  pub some : 1 ≤ place

-- what the size says
pub record Sized (bytes : List ℕ) : Type 0 where
  pub long : length bytes ≡ 16 * count_of bytes
  pub least : 1 ≤ count_of bytes
  pub most : count_of bytes ≤ 1024

pub sized_parts : (bytes : List ℕ) → sized bytes ≡ true → Sized bytes
sized_parts bytes size =
    let a = and_parts (leb 16 (length bytes)) _ size in
    let b = and_parts (eqb (length bytes) (16 * count_of bytes)) _ a.1 in
    let c = and_parts (leb 1 (count_of bytes)) _ b.1 in
    record { long = eqb-true _ _ b.0; least = leb-true 1 _ c.0; most = leb-true _ 1024 c.1 }

module _ (bytes : List ℕ) where
  pub head_fault : (f : Fault) → Sized bytes → f ≡ plan_fault_of RecordForm 0 → head_form (record_at bytes 0) ≡ false → FirstRecord bytes f
  head_fault f size e h =
      let at : 0 ≡ f.place = ap (λ (x : Fault). x.place) (sym e) in
      let why : RecordForm ≡ f.refusal = ap (λ (x : Fault). x.refusal) (sym e) in
      record {
        inside = omega (arith, size.least);
        before = λ j l. absurd (omega arith);
        here = subst (λ p. check (records bytes p) (record_at bytes p) ≡ Some f.refusal) at (cond-true _ _ _ (not_from_false _ h) ∙ ap (λ w. Some w) why);
        layer = e ∙ (λ i. plan_fault_of (why i) (at i));
      }

  module _ (place : ℕ) (ss : List Server) (r : Reading bytes place ss) where
    -- the checks of the next record
    next_check : check (records bytes place) (record_at bytes place) ≡ check_after ss (record_at bytes place)
    next_check = ap (λ rs. check rs (record_at bytes place)) r.front ∙ check_body (record_at bytes 0) ss (record_at bytes place)

    pub reading_more : (ts : List Server) → ((i : ℕ) → get_or bytes i 0 < 256) → Taken bytes place ss ts → Reading bytes (place + 1) ts
    reading_more ts small t =
        let grown = grown_records t.entry ss ts t.added in
        let byte : (entry_record t.entry).number < 256 = subst (λ (x : Record). x.number < 256) (sym t.same) (small (16 * place + 1)) in
        record {
          front = map-range_with_len_more (record_at bytes) 0 place place (omega arith)
              ∙ ap (λ rs. rs ++ record_at bytes place ∷ []) r.front
              ∙ ap (λ x. record_at bytes 0 ∷ (body_records ss ++ x ∷ [])) (sym t.same)
              ∙ ap (λ rs. record_at bytes 0 ∷ rs) (sym grown);
          clean = below_more _ _ r.clean (next_check ∙ t.passed);
          sound = grown_valid t.entry ss ts t.added byte (ap (check_after ss) t.same ∙ t.passed) r.sound;
          some = omega arith;
        }

    reading_fault : (f : Fault) → place < count_of bytes → f ≡ plan_fault_of f.refusal place → check_after ss (record_at bytes place) ≡ Some f.refusal → FirstRecord bytes f
    reading_fault f h e c =
        let at : place ≡ f.place = ap (λ (x : Fault). x.place) (sym e) in
        record {
          inside = omega arith;
          before = subst (InOrder bytes) at r.clean;
          here = subst (λ p. check (records bytes p) (record_at bytes p) ≡ Some f.refusal) at (next_check ∙ c);
          layer = e ∙ ap (plan_fault_of f.refusal) at;
        }

    pub reading_stops : (ts : List Server) (e : ReadError) → place < count_of bytes → Took bytes place ss ts (Err e) → ReadServers bytes (Err e)
    reading_stops ts (AtFault f) h t = reading_fault f h t.0 t.1
    reading_stops ts NoMemory h t = tt

  -- a head in order says how many records there are
  head_is : head_form (record_at bytes 0) ≡ true → record_at bytes 0 ≡ head_record (count_of bytes)
  head_is h =
      let k = and_parts (eqb (record_at bytes 0).kind 0) _ h in
      let n = and_parts (eqb (record_at bytes 0).number 0) _ k.1 in
      let z = and_parts (eqb (record_at bytes 0).zeros 0) _ n.1 in
      let s = and_parts (eqb (record_at bytes 0).second 0) _ z.1 in
      λ i. record {
        kind = eqb-true _ 0 k.0 i;
        number = eqb-true _ 0 n.0 i;
        zeros = eqb-true _ 0 z.0 i;
        first = count_of bytes;
        second = eqb-true _ 0 s.0 i;
        third = eqb-true _ 0 s.1 i;
      }

  pub reading_all : (n : ℕ) (ss : List Server) → n ≡ count_of bytes → Sized bytes → ((i : ℕ) → get_or bytes i 0 < 256) → head_form (record_at bytes 0) ≡ true → Reading bytes n ss → (valid ss ≡ true) × (bytes ≡ encoding ss)
  reading_all n ss count size small h r =
      let long : length bytes ≡ 16 * n = omega (arith, size.long) in
      let records-long : length (record_at bytes 0 ∷ body_records ss) ≡ n = ap length (sym r.front) ∙ length-map-range_with_len (record_at bytes) 0 n in
      let told : count_of bytes ≡ length (body_records ss) + 1 = omega arith in
      let plan : records bytes n ≡ plan_records ss = r.front ∙ ap (λ x. x ∷ body_records ss) (head_is h ∙ ap head_record told) in
      (and_from _ _ r.sound (le-leb _ 1024 (omega (arith, size.most))), sym (read_back bytes small n long) ∙ ap (flat_map record_bytes) plan)
