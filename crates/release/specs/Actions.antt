-- One action on paper: its boundaries, what is owed by each, and its end. Nothing here knows of a scheduler.
use Rattle.std.specs.Prelude.{◌≡◌, ℕ, zero, suc, ◌+◌, ◌-◌, ◌*◌, ◌/◌, ◌<◌, ◌≤◌, min, cond, nat_lt}

-- what a start asks for, and the instant at which it asks
pub record Action : Type 0 where
  pub arrival : ℕ
  pub load : ℕ
  pub limit : ℕ
  pub period : ℕ

abbrev pub action : ℕ → ℕ → ℕ → ℕ → Action
action arrival load limit period = record { arrival = arrival; load = load; limit = limit; period = period }

-- what a release rule means: from limit, period, arrival and first boundary to an amount
abbrev pub Meaning : Type 0
Meaning = ℕ → ℕ → ℕ → ℕ → ℕ

-- n / d, rounded up
unfoldable pub ceil : ℕ → ℕ → ℕ
ceil n d = (n + (d - 1)) / d

-- the first multiple of d from n on
abbrev pub multiple_from : ℕ → ℕ → ℕ
multiple_from n d = d * ceil n d

-- m is the least multiple of d that is not below n
pub record LeastMultiple (n d m : ℕ) : Type 0 where
  pub multiple : (j : ℕ) × (m ≡ d * j)
  pub not_below : n ≤ m
  pub near : m < n + d
  pub least : (j : ℕ) → n ≤ d * j → m ≤ d * j

-- the least multiple of the period that is not below the arrival
unfoldable pub first_boundary_of : Action → ℕ
first_boundary_of k = multiple_from k.arrival k.period

-- what the rule gives where the arrival lies before the first boundary; else it counts as 0
unfoldable pub first_amount_of : Meaning → Action → ℕ
first_amount_of rule k = cond (nat_lt k.arrival (first_boundary_of k)) (rule k.limit k.period k.arrival (first_boundary_of k)) 0

-- the boundaries, from the first on
abbrev pub boundary : Action → ℕ → ℕ
boundary k j = first_boundary_of k + j * k.period

-- what is owed in all by the boundary j
abbrev pub due : Meaning → Action → ℕ → ℕ
due rule k j = min k.load (first_amount_of rule k + k.limit * j)

-- The stretch j ends at the boundary j. The first begins at the arrival; it is empty where that is a boundary.
abbrev pub begins : Action → ℕ → ℕ
begins k zero = k.arrival
begins k (suc j) = boundary k j

-- the amount of the stretch j: the first has the first amount, each later one the limit, and none more than what is left
abbrev pub amount : Meaning → Action → ℕ → ℕ
amount rule k zero = min k.load (first_amount_of rule k)
amount rule k (suc j) = min k.limit (k.load - due rule k j)

-- the boundary j is the first by which the whole load is owed
abbrev pub Completes : Meaning → Action → ℕ → Type 0
Completes rule k j = (due rule k j ≡ k.load) × ((i : ℕ) → i < j → due rule k i < k.load)

-- the end, computed: one period after the first boundary for each limit, whole or begun, of the load that is left there
unfoldable pub forecast : Meaning → Action → ℕ
forecast rule k = boundary k (ceil (k.load - first_amount_of rule k) k.limit)
