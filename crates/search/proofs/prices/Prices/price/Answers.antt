-- `search::prices::Prices::price` meets its contract. Assumes nothing.
use mathlib.Core.Path.{◌≡◌, refl, ap, ◌∙◌}
use lib.Ieee.{Float, div, of_bits}
use lib.ListN.{drop}
use Rattle.std.specs.Float.{inf}
use Rattle.std.specs.Prelude.{false, Result, Ok, Err}
use Rattle.std.specs.Result.{result_unwrap_or}
use Rattle.meaning.specs.Answers.{reply_of}
use Rattle.meaning.specs.declared.refusals.Refusal.{Refusal}
use Rattle.search.specs.Priced.{price_in}
use Rattle.search.specs.Prices.{price_said, ready_price_of, stands_from}
use Rattle.search.proofs.Stands.{prepared-stands}
use Rattle.search.proofs.prices.Prices.price.Goals as goal

said : (answer : Result Float Refusal) → result_unwrap_or answer (inf false) ≡ price_said (reply_of answer)
said (Ok x) = refl
said (Err refusal) = refl

pub returns : goal.returns
unfolding price_in ready_price_of div of_bits
returns c =
    let s = c.args.self.now in
    let p = s.problem in
    let k = c.cost_prepared in
    record {
      value = c.unwrap_or.ensures ∙ said k.result ∙ ap price_said k.ensures.result_value;
      kept = record {
        prices = ap (ready_price_of s.bins.now p s.ready.now) k.auto.table;
        problem = refl;
        stands = ap (drop (stands_from p)) k.ensures.table_after
            ∙ prepared-stands s.bins.now p.scale p.window_end p.peak p.error p.genome c.args.list.now s.ready.now s.table.now;
        lent = refl;
      };
    }
