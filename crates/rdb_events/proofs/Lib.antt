mod NextLemmas
