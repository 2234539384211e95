-- The requests that calls are.
use Rattle.std.specs.Prelude.{ℕ, List, map}
use Rattle.calls.specs.declared.call.Call.{Call}
use Rattle.calls.specs.declared.call.Call.TheVariants.{Scan, Take, Strike, Wipe, Turn}
use Rattle.history.specs.Requests.{Request, scan, take, strike, wipe, turn}

-- what a call is handed, as plain bytes or a number; items tells the bytes of what hands them
abbrev pub request_of : {S : Type 0} → (S → List ℕ) → Call S → Request
request_of items (Scan bytes) = scan (items bytes)
request_of items (Take values) = take (items values)
request_of items (Strike ident) = strike (items ident)
request_of items Wipe = wipe
request_of items (Turn year) = turn year

-- a list of calls, one by one
abbrev pub requests_of : {S : Type 0} → (S → List ℕ) → List (Call S) → List Request
requests_of items calls = map (request_of items) calls
