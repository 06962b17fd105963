mod BarLemmas
