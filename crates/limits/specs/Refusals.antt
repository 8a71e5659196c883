-- The numbers by which refusals and layers are known, and how a fault is written.
use Rattle.std.specs.Prelude.{ℕ, List, ◌++◌, codes, decimal, Ok, Err, Result}
use Rattle.limits.specs.declared.fault.Fault.{Fault}
use Rattle.limits.specs.declared.fault.Layer.{Layer}
use Rattle.limits.specs.declared.fault.Layer.TheVariants.{RecordBytes, PlanValues, Script}
use Rattle.limits.specs.declared.refusal.Refusal.{Refusal}
use Rattle.limits.specs.declared.refusal.Refusal.TheVariants.{ServerNumber, Cap, Load, Period, Limit, AdvanceCount, PlanSize, RecordForm, ActionBeforeServer, NumberTwice, ScriptForm, NotInPlan, InstantPastHorizon, NotAdmitted, AlreadyAdmitted, CapsExceedProcessor, ActionAtWork, LimitAboveCap, ForecastPastHorizon, ClockAtHorizon, EntryAlreadyQueued, TooLittleMemory, MemoryFull}

abbrev pub number : Refusal → ℕ
number ServerNumber = 1
number Cap = 2
number Load = 3
number Period = 4
number Limit = 5
number AdvanceCount = 6
number PlanSize = 7
number RecordForm = 8
number ActionBeforeServer = 9
number NumberTwice = 11
number ScriptForm = 12
number NotInPlan = 13
number InstantPastHorizon = 14
number NotAdmitted = 20
number AlreadyAdmitted = 21
number CapsExceedProcessor = 22
number ActionAtWork = 23
number LimitAboveCap = 24
number ForecastPastHorizon = 25
number ClockAtHorizon = 26
number EntryAlreadyQueued = 27
number TooLittleMemory = 28
number MemoryFull = 29

-- the number of the refusal, 0 if there is none
abbrev pub refusal_number_of : {T : Type 0} → Result T Refusal → ℕ
refusal_number_of (Ok x) = 0
refusal_number_of (Err why) = number why

abbrev pub layer_number : Layer → ℕ
layer_number RecordBytes = 1
layer_number PlanValues = 2
layer_number Script = 3

-- a fault as it is printed: layer, number and place
abbrev pub fault_text : Fault → List ℕ
fault_text f =
    codes "fault " ++ (decimal (layer_number f.layer) ++ (codes " " ++ (decimal (number f.refusal) ++ (codes " " ++ decimal f.place))))
