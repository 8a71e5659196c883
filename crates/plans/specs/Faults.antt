-- What is wrong with bytes that are no plan: the checks in their order, and the first that fails.
use Rattle.std.specs.Prelude.{◌≡◌, ℕ, ◌*◌, ◌<◌, Bool, cond, not, ◌&&◌, ◌||◌, List, [], ◌∷◌, map, length, Some, None, MatchBool, filter, Option, ◌==◌, nat_le}
use Rattle.limits.specs.Checks.{action_check, cap_check, refuse, server_check}
use Rattle.limits.specs.Refusals.{number as refusal_number_of}
use Rattle.limits.specs.declared.fault.Fault.{Fault}
use Rattle.limits.specs.declared.fault.Layer.TheVariants.{RecordBytes, PlanValues}
use Rattle.limits.specs.declared.refusal.Refusal.{Refusal}
use Rattle.limits.specs.declared.refusal.Refusal.TheVariants.{PlanSize, RecordForm, ActionBeforeServer, NumberTwice}
use Rattle.plans.specs.Numbers.{has}
use Rattle.plans.specs.Records.{record_at, word}
use Rattle.plans.specs.declared.record.Record.{Record}
use Rattle.std.specs.List.{list_any, range_with_len}
use Rattle.std.specs.Option.{option_or}

-- the head's record count
abbrev pub count_of : List ℕ → ℕ
count_of bytes = word bytes 4

-- at least the head, and as many records as it says: 1 to 1,024
abbrev pub sized : List ℕ → Bool
sized bytes = nat_le 16 (length bytes) && (length bytes == 16 * count_of bytes && (nat_le 1 (count_of bytes) && nat_le (count_of bytes) 1024))

-- the first n records of the bytes
abbrev pub records : List ℕ → ℕ → List Record
records bytes n = map (record_at bytes) (range_with_len 0 n)

abbrev pub is_server : Record → Bool
is_server r = r.kind == 1

abbrev pub is_action : Record → Bool
is_action r = r.kind == 2

abbrev pub head_form : Record → Bool
head_form r = r.kind == 0 && (r.number == 0 && (r.zeros == 0 && (r.second == 0 && r.third == 0)))

-- a server or an action, with zeros where they must be, and no action of number 0
abbrev pub form : Record → Bool
form r = r.zeros == 0 && ((is_server r && (r.second == 0 && r.third == 0)) || (is_action r && not (r.number == 0)))

-- of the records before one: a server among them
abbrev pub any_server : List Record → Bool
any_server rs = list_any is_server rs

-- those after the last server, its actions
abbrev pub latest : List Record → List Record
latest [] = []
latest (r ∷ rs) = cond (any_server rs) (latest rs) (cond (is_server r) rs (r ∷ rs))

-- the checks of a record after the head, where a server stands before it (any), one of its number (server), and an action of its number in the last server (action)
abbrev pub record_check : (any server action : Bool) → Record → Option Refusal
record_check any server action r =
    refuse (not (form r)) RecordForm (cond (is_server r)
    (option_or (server_check r.number) (option_or (cap_check r.first) (refuse server NumberTwice None)))
    (refuse (not any) ActionBeforeServer (option_or (action_check r.first r.second r.third) (refuse action NumberTwice None))))

-- the checks of a record, given the records before it
abbrev pub check : List Record → Record → Option Refusal
check [] r = refuse (not (head_form r)) RecordForm None
check (head ∷ before) r =
    record_check (any_server before) (has (λ b. b.number) r.number (filter is_server before)) (has (λ b. b.number) r.number (latest before)) r

-- the records before a place are in order
abbrev pub InOrder : List ℕ → ℕ → Type 0
InOrder bytes place = (j : ℕ) → j < place → check (records bytes j) (record_at bytes j) ≡ None

-- 7 to 9 are faults of the bytes, the others of the values
abbrev pub plan_fault_of : Refusal → ℕ → Fault
plan_fault_of why place = record {
  layer = cond (nat_le 7 (refusal_number_of why) && nat_le (refusal_number_of why) 9) RecordBytes PlanValues;
  refusal = why;
  place = place;
}

-- the record at the place is the first at fault
pub record FirstRecord (bytes : List ℕ) (f : Fault) : Type 0 where
  pub inside : f.place < count_of bytes
  pub before : InOrder bytes f.place
  pub here : check (records bytes f.place) (record_at bytes f.place) ≡ Some f.refusal
  pub layer : f ≡ plan_fault_of f.refusal f.place

-- the first fault: the size comes before every record
abbrev pub FirstFault : List ℕ → Fault → Type 0
FirstFault bytes f = MatchBool (sized bytes) (FirstRecord bytes f) (f ≡ plan_fault_of PlanSize 0)
