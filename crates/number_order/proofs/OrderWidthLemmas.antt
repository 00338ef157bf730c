-- An order has one width.
use Rattle.std.proofs.Common.{refl, sym, ◌∙◌}
use Rattle.digit_tuple.proofs.WidthLemmas.{HasWidth-unique, HasWidth-excludes}
use Rattle.number_order.specs.Orders.{OrderAlike, pair_letters}
use Rattle.number_order.specs.OrderWidth.{OrderAlikeIsEquivalence, OneOrderWidth, OrderWidthExcludes}

pub IsEquivalence-order : OrderAlikeIsEquivalence
IsEquivalence-order direction language = record {
  reflexive = λ w. record { first = λ u over. refl; second = λ u over. refl; compared = refl };
  symmetric = λ w v one. record { first = λ u over. sym (one.first u over); second = λ u over. sym (one.second u over); compared = sym one.compared };
  transitive = λ u v w one two. record {
    first = λ x over. one.first x over ∙ two.first x over;
    second = λ x over. one.second x over ∙ two.second x over;
    compared = one.compared ∙ two.compared;
  };
}

pub one_order_width : OneOrderWidth
one_order_width direction language = HasWidth-unique (OrderAlike direction language) (pair_letters language) (IsEquivalence-order direction language)

pub order_width_excludes : OrderWidthExcludes
order_width_excludes direction language = HasWidth-excludes (OrderAlike direction language) (pair_letters language) (IsEquivalence-order direction language)
