-- The scripts of the generated job's clients.
use Rattle.std.specs.Prelude.{ℕ, zero, suc, ◌+◌, ◌%◌, ◌^◌, ◌==◌, ◌||◌, if◌then◌else◌, List, [], ◌++◌, codes, decimal}
use Rattle.rdb_script.specs.declared.transaction.Transaction.{Transaction}
use Rattle.rdb_script.specs.declared.transaction.Transaction.TheVariants.{Stock, Restock, PlaceAndSale, LookAtSales, LookAtPlaces, DelLowest}
use Rattle.rdb_script.specs.Stream.{next_state, draw}

-- a transaction that was drawn, and the state from which the stream goes on
pub record Drawn : Type 0 where
  pub transaction : Transaction
  pub state : ℕ

-- an item's stock, and its price
abbrev pub stock_at : ℕ → Drawn
stock_at a =
    let b = next_state a in
    record { transaction = Stock (draw 100 a) (draw 10000 b); state = next_state b }

-- one of 8 clients and one of 200 numbers, after which the item is named; then its stock, and its price
abbrev pub restock_at : ℕ → Drawn
restock_at a =
    let b = next_state a in
    let c = next_state b in
    let d = next_state c in
    record { transaction = Restock (1 + draw 8 a) (1 + draw 200 b) (draw 100 c) (draw 10000 d); state = next_state d }

-- the place's first corner, how far its second lies beyond it, and the sale's item, count and day
abbrev pub place_and_sale_at : ℕ → Drawn
place_and_sale_at a =
    let b = next_state a in
    let c = next_state b in
    let d = next_state c in
    let e = next_state d in
    let f = next_state e in
    let g = next_state f in
    record {
      transaction = PlaceAndSale (draw 1000 a) (draw 1000 b) (draw 1000 a + draw 50 c) (draw 1000 b + draw 50 d) (draw 1000 e) (draw 10 f) (draw 365 g);
      state = next_state g;
    }

-- a day
abbrev pub look_at_sales_at : ℕ → Drawn
look_at_sales_at a = record { transaction = LookAtSales (draw 365 a); state = next_state a }

-- an area's first corner; the second lies 100 beyond it both ways
abbrev pub look_at_places_at : ℕ → Drawn
look_at_places_at a =
    let b = next_state a in
    record { transaction = LookAtPlaces (draw 1000 a) (draw 1000 b) (draw 1000 a + 100) (draw 1000 b + 100); state = next_state b }

-- the transaction of a number from 0 to 5
abbrev pub drawn_by : ℕ → ℕ → Drawn
drawn_by number state =
    if number == 0 then stock_at state
    else (if number == 1 then restock_at state
    else (if number == 2 then place_and_sale_at state
    else (if number == 3 then look_at_sales_at state
    else (if number == 4 then look_at_places_at state
    else record { transaction = DelLowest; state = state }))))

-- the next transaction of a stream: its number is drawn first
unfoldable pub drawn_at : ℕ → Drawn
drawn_at state = drawn_by (draw 6 state) (next_state state)

-- makes the item `k-t`
abbrev pub stock_lines : ℕ → ℕ → ℕ → ℕ → List ℕ
stock_lines k t stock price =
    codes "begin rw retry 4\nnew Item {\"" ++ decimal k ++ codes "-" ++ decimal t ++ codes "\"," ++ decimal stock ++ codes "," ++ decimal price ++ codes "}\ncommit\n"

-- looks up the item `j-u`, and puts it anew
abbrev pub restock_lines : ℕ → ℕ → ℕ → ℕ → List ℕ
restock_lines j u stock price =
    codes "begin rw retry 4\nx = find Item.byName {\"" ++ decimal j ++ codes "-" ++ decimal u ++ codes "\"}\nput Item x {\"" ++ decimal j ++ codes "-" ++ decimal u
    ++ codes "\"," ++ decimal stock ++ codes "," ++ decimal price ++ codes "}\ncommit\n"

abbrev pub place_line : ℕ → ℕ → ℕ → ℕ → ℕ → ℕ → List ℕ
place_line k t x1 y1 x2 y2 =
    codes "new Place {[" ++ decimal x1 ++ codes "," ++ decimal y1 ++ codes "," ++ decimal x2 ++ codes "," ++ decimal y2 ++ codes "],\"" ++ decimal k ++ codes "-" ++ decimal t ++ codes "\"}\n"

abbrev pub sale_line : ℕ → ℕ → ℕ → List ℕ
sale_line item count day = codes "new Sale {" ++ decimal item ++ codes "," ++ decimal count ++ codes "," ++ decimal day ++ codes "}\n"

abbrev pub look_at_sales_lines : ℕ → List ℕ
look_at_sales_lines day = codes "begin ro\nseek Sale.byDay ge {" ++ decimal day ++ codes ",0}\ncount Item\ncommit\n"

abbrev pub look_at_places_lines : ℕ → ℕ → ℕ → ℕ → ℕ → List ℕ
look_at_places_lines k x1 y1 x2 y2 =
    codes "begin ro\narea Place.byArea overlaps [" ++ decimal x1 ++ codes "," ++ decimal y1 ++ codes "," ++ decimal x2 ++ codes "," ++ decimal y2
    ++ codes "]\nprefix Item.pName starting \"" ++ decimal k ++ codes "-\"\ncommit\n"

-- the lines of transaction t of client k
abbrev pub transaction_lines : ℕ → ℕ → Transaction → List ℕ
transaction_lines k t (Stock stock price) = stock_lines k t stock price
transaction_lines k t (Restock client number stock price) = restock_lines client number stock price
transaction_lines k t (PlaceAndSale x1 y1 x2 y2 item count day) =
    codes "begin rw retry 4\n" ++ (place_line k t x1 y1 x2 y2 ++ (sale_line item count day ++ codes "commit\n"))
transaction_lines k t (LookAtSales day) = look_at_sales_lines day
transaction_lines k t (LookAtPlaces x1 y1 x2 y2) = look_at_places_lines k x1 y1 x2 y2
transaction_lines k t DelLowest = codes "begin rw retry 4\ny = seek Item.byStock first\ndel Item y\ncommit\n"

-- so many transactions of client k, numbered from t on, drawn from a state on
unfoldable pub transactions : ℕ → ℕ → ℕ → ℕ → List ℕ
transactions zero k t state = []
transactions (suc more) k t state = let drawn = drawn_at state in transaction_lines k t drawn.transaction ++ transactions more k (t + 1) drawn.state

-- clients 3 and 6 stop before their step 500
abbrev pub stop_line : ℕ → List ℕ
stop_line k = if k == 3 || k == 6 then codes "stop 500\n" else []

-- the script of client k: 200 transactions, from a stream of its own
unfoldable pub job_script : ℕ → ℕ → List ℕ
job_script seed k = stop_line k ++ transactions 200 k 1 ((seed + k) % 2 ^ 64)
