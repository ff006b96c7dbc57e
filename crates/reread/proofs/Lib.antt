mod Sampled
